use Rattle.std.proofs.Common.{◌≡◌, drop, fold, filter}
use Rattle.header_mutation.specs.Mutated.{items, is_allowed, verdict, changed}
use Rattle.header_mutation.proofs.mutation.applied.Given as goal

abbrev pub invariant-loop-place : goal.invariant-loop-place
invariant-loop-place l =
    fold changed l.fields (filter (λ i. is_allowed (verdict l.rules l.head i)) (drop l.place (items l.part l.mutation)))
    ≡ fold changed l.head (filter (λ i. is_allowed (verdict l.rules l.head i)) (items l.part l.mutation))
