use Rattle.filter_model.proofs.DoneStays.{done_stays}
use Rattle.filter_model.proofs.laws.done_stays.Goals as goal

pub returns : goal.returns
returns c = done_stays
