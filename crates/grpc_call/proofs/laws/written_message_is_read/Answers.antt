use Rattle.grpc_call.proofs.Written.{written}
use Rattle.grpc_call.proofs.laws.written_message_is_read.Goals as goal

pub returns : goal.returns
returns c = written
