use Rattle.filter_model.proofs.GivenRight.{grows_along}
use Rattle.filter_model.proofs.laws.changed_only_grows.Goals as goal

pub returns : goal.returns
returns c = grows_along
