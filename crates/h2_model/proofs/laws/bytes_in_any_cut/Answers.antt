use Rattle.h2_model.proofs.Flows.{in-pieces}
use Rattle.h2_model.proofs.laws.bytes_in_any_cut.Goals as goal

pub returns : goal.returns
returns c = in-pieces
