use Rattle.filter_model.proofs.Kept.{step-made}
use Rattle.filter_model.proofs.EachStep.{fate_stays, sent_at_most_one, lost_done}
use Rattle.filter_model.proofs.laws.each_step.Goals as goal

pub returns : goal.returns
returns c = record { asks = step-made; fate = fate_stays; sent = sent_at_most_one; loss = lost_done }
