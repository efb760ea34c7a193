use Rattle.std.proofs.Common.{length, ◌-◌}
use Rattle.h1_message.proofs.BodyLaw.{Along}
use Rattle.h1_message.proofs.body.feed_body.Given as goal

abbrev pub invariant-pieces : goal.invariant-pieces
invariant-pieces l = Along l.fn.body l.bytes l.content.items l.at l.body

abbrev pub decreases-pieces : goal.decreases-pieces
decreases-pieces l = length l.bytes - l.at
