use Rattle.filter_model.proofs.ToldAnswer.{settle_waits, settle_early, answer_at_once}
use Rattle.filter_model.proofs.laws.settles_first.Goals as goal

pub returns : goal.returns
returns c = record { waits = settle_waits; early = settle_early; at_once = answer_at_once }
