use Rattle.grpc_call.proofs.Told.{over_stays}
use Rattle.grpc_call.proofs.laws.ends_are_told.Goals as goal

pub returns-clause-over : goal.returns-clause-over
returns-clause-over c = over_stays
