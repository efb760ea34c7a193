use Rattle.h2_model.proofs.Stays.{first-stays}
use Rattle.h2_model.proofs.laws.first_violation_stays.Goals as goal

pub returns : goal.returns
returns c = first-stays
