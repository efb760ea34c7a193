-- What was copied so far.
use Rattle.std.proofs.Common.{◌-◌, length, drop}
use Rattle.h2_sender.specs.Outgoing.{written}
use Rattle.h2_sender.proofs.Copies.{CopiedSoFar}
use Rattle.h2_sender.proofs.outgoing.copy_rest.Given as goal

abbrev pub invariant-pieces : goal.invariant-pieces
invariant-pieces l = CopiedSoFar (drop l.given (written l.greeting l.frame)) l.initial.out l.out l.n

abbrev pub decreases-pieces : goal.decreases-pieces
decreases-pieces l = length l.initial.out - l.n
