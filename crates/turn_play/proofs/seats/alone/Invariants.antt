use Rattle.turn_lock.specs.Seats.{IsSeatOf}
use Rattle.turn_play.proofs.seats.alone.Given as goal

abbrev pub invariant-loop-number : goal.invariant-loop-number
invariant-loop-number g l = IsSeatOf l.table l.seat
