use Rattle.std.proofs.Common.{◌≡◌, length}
use Rattle.header_mutation.specs.Values.{trim_start}
use Rattle.header_mutation.proofs.values.trim_start.Given as goal

abbrev pub invariant-blanks : goal.invariant-blanks
invariant-blanks l = trim_start l.rest ≡ trim_start l.initial.rest

abbrev pub decreases-blanks : goal.decreases-blanks
decreases-blanks l = length l.rest
