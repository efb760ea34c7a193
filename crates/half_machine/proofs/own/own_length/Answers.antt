use Rattle.std.proofs.Common.{rules, sym, ◌∙◌, ap, ◌≡◌, ◌<◌, true, false, length, codes, slice_index_or}
use Rattle.std.specs.Prelude.{min}
use Rattle.ext_msgs.specs.declared.lists.Field.{Field}
use Rattle.http_model.specs.Bytes.{is_named, decimal_value}
use Rattle.http_model.specs.declared.types.Framing.TheVariants.{Length as OfLength}
use Rattle.half_machine.proofs.Owned.{length_at, length_behind}
use Rattle.half_machine.proofs.own.own_length.Goals as goal

pub returns-then-is_named : goal.returns-then-is_named
returns-then-is_named c =
    let fields = c.as_slice-field-items.result.now in
    let i = c.loop-field.field-index in
    let d = c.field-item.result in
    let within : i < length fields = search rules in
    let named : is_named (codes "content-length") (slice_index_or fields i d) ≡ true =
    ap (λ f. is_named (codes "content-length") f) (sym c.field-item.is) ∙ sym c.is_named.ensures ∙ c.if-is_named.true in
    let value : c.bytes.result.now ≡ (slice_index_or fields i d).value = c.bytes.ensures.list ∙ ap (λ (f : Field). f.value) c.field-item.is in
    ap OfLength (c.number.ensures ∙ ap (λ v. min (decimal_value v) 18_446_744_073_709_551_615) value)
    ∙ sym (length_at fields i d within named) ∙ sym c.loop-field.invariant

pub loop-field-preserved : goal.loop-field-preserved
loop-field-preserved c =
    let fields = c.as_slice-field-items.result.now in
    let i = c.loop-field.field-index in
    let d = c.field-item.result in
    let within : i < length fields = search rules in
    let named : is_named (codes "content-length") (slice_index_or fields i d) ≡ false =
    ap (λ f. is_named (codes "content-length") f) (sym c.field-item.is) ∙ sym c.is_named.ensures ∙ c.if-is_named.false in
    c.loop-field.invariant ∙ length_behind fields i d within named
