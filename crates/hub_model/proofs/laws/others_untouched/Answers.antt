use Rattle.hub_model.proofs.Places.{meet-other}
use Rattle.hub_model.proofs.laws.others_untouched.Goals as goal

pub returns : goal.returns
returns c = meet-other
