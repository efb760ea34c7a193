use Rattle.std.proofs.Common.{length}
use Rattle.processor_core.proofs.stages.+tell_seats.Given as goal

abbrev pub decreases-tell_seats : goal.decreases-tell_seats
decreases-tell_seats g l = length l.seats.now
