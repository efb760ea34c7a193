use Rattle.filter_model.proofs.SideCuts.{side_cut}
use Rattle.filter_model.proofs.laws.side_cuts.Goals as goal

pub returns : goal.returns
returns c = side_cut
