use Rattle.std.proofs.Common.{◌≡◌, drop}
use Rattle.std.specs.List.{position_from}
use Rattle.header_mutation.specs.Mutated.{items, is_forbidden, verdict}
use Rattle.header_mutation.proofs.mutation.first_disallowed.Given as goal

abbrev pub invariant-loop-place : goal.invariant-loop-place
invariant-loop-place l =
    position_from (λ i. is_forbidden (verdict l.rules l.head i)) 0 (items l.part l.mutation)
    ≡ position_from (λ i. is_forbidden (verdict l.rules l.head i)) l.place (drop l.place (items l.part l.mutation))
