use Rattle.std.proofs.Common.{refl}
use Rattle.h2_model.specs.History.{start, account}
use Rattle.h2_model.proofs.laws.no_violation_at_first.Goals as goal

pub returns : goal.returns
unfolding start account
returns c = record { log = refl; session = λ client. refl }
