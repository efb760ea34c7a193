use Rattle.filter_model.proofs.FewAsks.{asks_turn, sent_bound, sent_turn}
use Rattle.filter_model.proofs.laws.asked_in_turn.Goals as goal

pub returns : goal.returns
returns c = record { made = asks_turn; sent = sent_turn; bound = sent_bound }
