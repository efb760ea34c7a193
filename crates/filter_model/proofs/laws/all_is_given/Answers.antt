use Rattle.filter_model.proofs.AllGiven.{all_given, more_bytes, no_framing}
use Rattle.filter_model.proofs.laws.all_is_given.Goals as goal

pub returns : goal.returns
returns c = record { all = all_given; more = more_bytes; unframed = no_framing }
