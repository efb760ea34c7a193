use Rattle.std.proofs.Common.{arith}
use Rattle.exchange.proofs.HeldBytes.{all_size, covers}
use Rattle.exchange.proofs.exchange.Exchange.held.Goals as goal

pub returns-clause-exact : goal.returns-clause-exact
returns-clause-exact g =
    let e = all_size g.args.self.now in
    let a = g.held.ensures in
    let b = g.held-2.ensures in
    let r = g.ready_size.ensures in
    let s = g.saturating_add.ensures in
    let t = g.saturating_add-2.ensures in
    omega (arith, e, a, b, r, s, t)

pub returns-clause-covers : goal.returns-clause-covers
returns-clause-covers g c h s l = covers c h g.args.self.now s l
