use Rattle.std.proofs.Common.{◌≤◌}
use Rattle.turn_lock.specs.Seats.{IsSeatOf}
use Rattle.turn_play.proofs.threads.adds.Given as goal

abbrev pub invariant-loop : goal.invariant-loop
invariant-loop l = IsSeatOf l.table l.seat × (l.done ≤ l.times)
