use Rattle.std.proofs.Common.{◌≡◌, ◌++◌}
use Rattle.std.specs.Vec.Iter.{into_iter_items}
use Rattle.header_mutation.specs.Names.{folded}
use Rattle.header_mutation.specs.Mutated.{overwritten}
use Rattle.header_mutation.proofs.Overwriting.{left_over}
use Rattle.header_mutation.proofs.change.overwrite.Given as goal

abbrev pub invariant-loop-field : goal.invariant-loop-field
invariant-loop-field l =
    l.after.items ++ left_over l.is_set (folded l.name) l.value (into_iter_items l.field-iterator)
    ≡ overwritten (folded l.name) l.value l.fn.fields
