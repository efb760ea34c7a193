use Rattle.std.proofs.Common.{arith}
use Rattle.std.specs.Vec.{vec_len}
use Rattle.trace_player.proofs.PlayedTells.{some_given}
use Rattle.trace_player.proofs.opened.gave_some.Goals as goal

pub returns-else-not-is_empty : goal.returns-else-not-is_empty
returns-else-not-is_empty c = λ nexts all asked ended.
    let ok = c.args.streamed.now.asks.ok.0 in
    some_given nexts c.args.streamed.now.asks.items c.args.streamed.now.ending c.is_empty.result c.is_some.result (vec_len c.args.streamed.now.asks) all asked ended
    (omega (arith, ok)) c.is_empty.ensures c.if-not-is_empty.false c.is_some.ensures
