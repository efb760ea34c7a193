use Rattle.std.proofs.Common.{arith, ap, ◌≡◌, ◌++◌, length, length-append}
use Rattle.exchange.specs.Order.{so_many}
use Rattle.exchange.proofs.Marking.{marked, so_many_long}
use Rattle.exchange.proofs.order.Order.push_many.Goals as goal

pub push-requires : goal.push-requires
push-requires c =
    let e : length c.asks.self ≡ length (c.args.self.now ++ so_many c.asks.counter c.args.direction) = ap length c.asks.invariant in
    let k = length-append c.args.self.now (so_many c.asks.counter c.args.direction) in
    let n = so_many_long c.asks.counter c.args.direction in
    let r = c.requires in
    let t = c.asks-test.true in
    omega (arith, e, k, n, r, t)

pub asks-preserved : goal.asks-preserved
asks-preserved c = marked c.asks.counter c.args.direction c.args.self.now c.asks.self c.push.new.self c.asks.invariant c.push.ensures
