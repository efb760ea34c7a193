use Rattle.hub_model.proofs.Sound.{right_given}
use Rattle.hub_model.proofs.Whole.{whole}
use Rattle.hub_model.proofs.laws.each_exchange_right.Goals as goal

pub returns : goal.returns
returns c = record { given = right_given; whole = whole }
