use Rattle.turn_lock.specs.Seats.{IsSeatOf}
use Rattle.turn_play.proofs.threads.is_turned_away.Given as goal

abbrev pub invariant-loop : goal.invariant-loop
invariant-loop l = IsSeatOf l.table l.seat
