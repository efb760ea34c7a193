use Rattle.grpc_call.proofs.First.{nothing_kept}
use Rattle.grpc_call.proofs.reader.CallReader.new.Goals as goal

pub invariant_of-result : goal.invariant_of-result
invariant_of-result c = nothing_kept c.args.limit c.new.result.items c.new-2.result.items c.new.ensures.items c.new-2.ensures.items
