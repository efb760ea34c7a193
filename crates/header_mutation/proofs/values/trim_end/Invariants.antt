use Rattle.std.proofs.Common.{◌≡◌, length}
use Rattle.header_mutation.specs.Values.{trim_end}
use Rattle.header_mutation.proofs.values.trim_end.Given as goal

abbrev pub invariant-blanks : goal.invariant-blanks
invariant-blanks l = trim_end l.rest ≡ trim_end l.initial.rest

abbrev pub decreases-blanks : goal.decreases-blanks
decreases-blanks l = length l.rest
