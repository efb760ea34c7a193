use Rattle.filter_model.proofs.AsksRight.{asks_right}
use Rattle.filter_model.proofs.laws.asks_in_order.Goals as goal

pub returns : goal.returns
returns c = asks_right
