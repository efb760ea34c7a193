use Rattle.grpc_call.proofs.Told.{of_data}
use Rattle.grpc_call.proofs.laws.data_is_told.Goals as goal

pub returns : goal.returns
returns c = of_data
