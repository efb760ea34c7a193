use Rattle.filter_model.proofs.RestStays.{rest_stays, same_fate, cut_fate, left_fate, ending_is, timer_is, cut_timer_is}
use Rattle.filter_model.proofs.laws.rest_stays.Goals as goal

pub returns : goal.returns
returns c = record {
  same = rest_stays;
  fate = same_fate;
  cut_fate = cut_fate;
  left = left_fate;
  ending = ending_is;
  timer = timer_is;
  cut_timer = cut_timer_is;
}
