use Rattle.std.proofs.Common.{◌∙◌, ap, Option, Ok}
use Rattle.ext_msgs.specs.declared.lists.Field.{Field}
use Rattle.hpack_core.specs.Reading.{step}
use Rattle.std.proofs.lemmas.Result.{err_from_is_err_and}
use Rattle.hpack_core.proofs.BlockLemmas.{reads_start, reads_fails, reads_large, reads_field, reads_none, reads_end}
use Rattle.hpack_core.proofs.block.fields.Goals as goal

pub loop-at-init : goal.loop-at-init
loop-at-init c = reads_start c.args.table.now c.args.bytes.now _ c.new-list.ensures

pub returns-in_err-field : goal.returns-in_err-field
returns-in_err-field c = let p = err_from_is_err_and c.from_residual.result c.from_residual.ensures.1 in
    rw (p.1, p.2) (reads_fails _ _ _ _ _ _ _ c.in_err-field.field-0.0 c.loop-at.invariant c.loop-at-test.true c.in_err-field.ensures.exact)

pub returns-in_default-room_behind : goal.returns-in_default-room_behind
returns-in_default-room_behind c = reads_large _ _ _ _ _ _ _ _ _ c.in-Some.field c.loop-at.invariant c.loop-at-test.true (c.in_ok-field.ensures.exact ∙ ap (λ (f : Option Field). Ok (step f c.representation.new.table c.in_ok-field.next)) c.in-Some.is) c.in_default-room_behind.ensures

pub loop-at-preserved-in_ok-push : goal.loop-at-preserved-in_ok-push
loop-at-preserved-in_ok-push c =
    reads_field c.args.table.now c.args.bytes.now c.loop-at.list c.push.new.self c.loop-at.table c.representation.new.table c.loop-at.first c.loop-at.room c.in-Some-room_behind.left c.loop-at.at c.in_ok-field.next c.in-Some.field
    c.loop-at.invariant c.loop-at-test.true (c.in_ok-field.ensures.exact ∙ ap (λ (f : Option Field). Ok (step f c.representation.new.table c.in_ok-field.next)) c.in-Some.is) c.in-Some-room_behind.ensures c.in_ok-push.ensures.pushed c.in_ok-field.ensures.inside.0 c.in_ok-field.ensures.inside.1

pub loop-at-preserved : goal.loop-at-preserved
loop-at-preserved c =
    reads_none c.args.table.now c.args.bytes.now c.loop-at.list c.loop-at.table c.representation.new.table c.loop-at.first c.loop-at.room c.loop-at.at c.in_ok-field.next
    c.loop-at.invariant c.loop-at-test.true (c.in_ok-field.ensures.exact ∙ ap (λ (f : Option Field). Ok (step f c.representation.new.table c.in_ok-field.next)) c.in_default.is) c.in_ok-field.ensures.inside.0 c.in_ok-field.ensures.inside.1

pub returns : goal.returns
returns c = reads_end _ _ _ _ _ _ _ c.loop-at.invariant c.loop-at-test.false
