use Rattle.std.proofs.Common.{◌≡◌, ◌∙◌, ◌++◌, ◌∷◌, [], sym, true, false, bytes_eq, arith}
use Rattle.std.specs.Vec.Iter.{into_iter_items}
use Rattle.std.proofs.lemmas.List.{nil_from_length}
use Rattle.std.proofs.lemmas.Slice.Eq.{bytes_eq-Decides}
use Rattle.header_mutation.specs.Names.{folded}
use Rattle.header_mutation.specs.Mutated.{overwritten, field}
use Rattle.header_mutation.proofs.Overwriting.{left_over, overwriting-other, overwriting-first, overwriting-later, overwriting-done}
use Rattle.header_mutation.proofs.change.overwrite.Goals as goal

pub loop-field-preserved-in-Continue-1 : goal.loop-field-preserved-in-Continue-1
loop-field-preserved-in-Continue-1 c =
    let name = folded c.args.name.now in
    let differs : bytes_eq name c.in-Some.field.name ≡ false = rw (← c.bytes.ensures.list) (sym c.if-not-same_name.ensures) in
    overwriting-other name c.args.value.now (overwritten name c.args.value.now c.args.fields)
    c.loop-field.is_set c.in-Some.field c.loop-field.after.items c.push.new.self.items
    (into_iter_items c.loop-field.field-iterator) (into_iter_items c.next.new.self)
    c.in-Some.ensures.steps.0 c.in_ok-push.ensures.items differs c.loop-field.invariant

pub loop-field-preserved-then-not-is_set : goal.loop-field-preserved-then-not-is_set
loop-field-preserved-then-not-is_set c =
    let name = folded c.args.name.now in
    let same : bytes_eq name c.in-Some.field.name ≡ true = rw (← c.bytes.ensures.list) (sym c.if-not-same_name.ensures) in
    let named : name ≡ c.in-Some.field.name = (bytes_eq-Decides name c.in-Some.field.name).0 same in
    let valued : c.in_ok-value.value ≡ c.args.value.now = c.in_ok-value.ensures in
    let pushed : c.push-then-not-is_set.new.self.items ≡ c.loop-field.after.items ++ field name c.args.value.now ∷ [] =
    rw (named, ← valued) c.in_ok-push-2.ensures.items in
    let so_far : c.loop-field.after.items ++ left_over false name c.args.value.now (into_iter_items c.loop-field.field-iterator)
    ≡ overwritten name c.args.value.now c.args.fields = rw c.if-not-is_set.true at c.loop-field.invariant in
    overwriting-first name c.args.value.now (overwritten name c.args.value.now c.args.fields)
    c.in-Some.field c.loop-field.after.items c.push-then-not-is_set.new.self.items
    (into_iter_items c.loop-field.field-iterator) (into_iter_items c.next.new.self)
    c.in-Some.ensures.steps.0 pushed same so_far

pub loop-field-preserved : goal.loop-field-preserved
loop-field-preserved c =
    let name = folded c.args.name.now in
    let same : bytes_eq name c.in-Some.field.name ≡ true = rw (← c.bytes.ensures.list) (sym c.if-not-same_name.ensures) in
    let so_far : c.loop-field.after.items ++ left_over true name c.args.value.now (into_iter_items c.loop-field.field-iterator)
    ≡ overwritten name c.args.value.now c.args.fields = rw c.if-not-is_set.false at c.loop-field.invariant in
    rw c.if-not-is_set.false
    (overwriting-later name c.args.value.now (overwritten name c.args.value.now c.args.fields) c.in-Some.field c.loop-field.after.items
    (into_iter_items c.loop-field.field-iterator) (into_iter_items c.next.new.self)
    c.in-Some.ensures.steps.0 same so_far)

pub returns : goal.returns
returns c =
    let name = folded c.args.name.now in
    let none : into_iter_items c.loop-field.field-iterator ≡ [] =
    nil_from_length _ (omega (arith, c.in-None.ensures.steps.0, c.loop-field.field-iterator.rest.ok.0)) in
    c.from_vec.ensures
    ∙ overwriting-done name c.args.value.now (overwritten name c.args.value.now c.args.fields)
    c.loop-field.is_set c.loop-field.after.items (into_iter_items c.loop-field.field-iterator)
    none c.loop-field.invariant
