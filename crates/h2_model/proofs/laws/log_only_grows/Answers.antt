use Rattle.h2_model.proofs.Grows.{grown}
use Rattle.h2_model.proofs.laws.log_only_grows.Goals as goal

pub returns : goal.returns
returns c = grown
