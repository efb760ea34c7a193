use Rattle.grpc_call.proofs.Told.{of_head}
use Rattle.grpc_call.proofs.laws.heads_are_told.Goals as goal

pub returns : goal.returns
returns c = of_head
