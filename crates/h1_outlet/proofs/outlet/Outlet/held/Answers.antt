use Rattle.std.proofs.Common.{arith}
use Rattle.h1_outlet.proofs.FieldSizes.{waits_held}
use Rattle.h1_outlet.proofs.outlet.Outlet.held.Goals as goal

pub returns-clause-body : goal.returns-clause-body
returns-clause-body c f s =
    let k = waits_held f c.args.self.now s in
    let e = c.kept-kept.ensures in
    omega (arith, k, e)
