use Rattle.std.proofs.Common.{length}
use Rattle.processor_core.proofs.stages.+ask_seats.Given as goal

abbrev pub decreases-ask_seats : goal.decreases-ask_seats
decreases-ask_seats g l = length l.seats.now
