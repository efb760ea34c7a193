use Rattle.filter_model.proofs.NeverOver.{never_over, none_cut, given_no_cut, sent_no_cut}
use Rattle.filter_model.proofs.laws.never_over.Goals as goal

pub returns : goal.returns
returns c = record { within = never_over; none = none_cut; given = given_no_cut; sent = sent_no_cut }
