use Rattle.std.proofs.Common.{length, ◌-◌}
use Rattle.h1_read.proofs.FeedLaw.{Along}
use Rattle.h1_read.proofs.reader.read_on.Given as goal

abbrev pub invariant-stops : goal.invariant-stops
invariant-stops l = Along l.fn.direction l.fn.to_head l.fn.kept.items l.bytes l.kept.items l.place l.at

abbrev pub decreases-stops : goal.decreases-stops
decreases-stops l = length l.bytes - l.at
