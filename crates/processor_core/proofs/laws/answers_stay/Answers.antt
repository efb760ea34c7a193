use Rattle.processor_core.proofs.Grows.{waits_on}
use Rattle.processor_core.proofs.laws.answers_stay.Goals as goal

pub returns : goal.returns
returns c = λ fs bytes ends d e h. let w = waits_on fs bytes ends d e h in (w.more, w.owed)
