use Rattle.filter_model.proofs.PartsGiven.{given_of_parts}
use Rattle.filter_model.proofs.laws.given_is_counted.Goals as goal

pub returns : goal.returns
returns c = given_of_parts
