use Rattle.grpc_call.proofs.Told.{begins}
use Rattle.grpc_call.proofs.laws.reader_begins.Goals as goal

pub returns : goal.returns
returns c = begins
