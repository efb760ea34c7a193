use Rattle.std.proofs.Common.{arith, ap, length-append}
use Rattle.grpc_call.specs.Reading.{Response}
use Rattle.grpc_call.proofs.First.{unfinished_short}
use Rattle.grpc_call.proofs.reader.CallReader.held.Goals as goal

pub returns-clause-bound : goal.returns-clause-bound
returns-clause-bound c =
    let short = unfinished_short c.self.inside.limit _ c.self.invariant.waits in
    let all = length-append c.self.inside.prefix.items c.self.inside.message.items in
    let same = ap (λ (r : Response). r.limit) c.self.view_is in
    omega (arith, c.len.ensures, c.len-2.ensures)
