use Rattle.filter_model.proofs.NothingTold.{idle_told, idle_made, idle_timer, timed_told, timed_made, timed_timer, starved_last, ends_late, is_taken}
use Rattle.filter_model.proofs.laws.nothing_told.Goals as goal

pub returns : goal.returns
returns c = record {
  idle = idle_told;
  idle_made = idle_made;
  idle_timer = idle_timer;
  timed = timed_told;
  timed_made = timed_made;
  timed_timer = timed_timer;
  starved = starved_last;
  ends = ends_late;
  taken = is_taken;
}
