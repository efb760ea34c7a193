use Rattle.h2_model.proofs.Flows.{flow-taken}
use Rattle.h2_model.proofs.laws.given_bytes_are_dropped.Goals as goal

pub returns : goal.returns
returns c = flow-taken
