use Rattle.std.proofs.Common.{◌≡◌, drop}
use Rattle.std.specs.List.{position_from}
use Rattle.header_mutation.specs.Mutated.{items, is_bad}
use Rattle.header_mutation.proofs.mutation.first_bad.Given as goal

abbrev pub invariant-loop-place : goal.invariant-loop-place
invariant-loop-place l =
    position_from is_bad 0 (items l.part l.mutation)
    ≡ position_from is_bad l.place (drop l.place (items l.part l.mutation))
