use Rattle.std.proofs.Common.{sym, subst}
use Rattle.h1_outlet.specs.Outlets.{with_part}
use Rattle.h1_outlet.specs.Stands.{StandsFor}
use Rattle.h1_outlet.proofs.Putting.{put_stands}
use Rattle.h1_outlet.proofs.outlet.Outlet.put.Goals as goal

pub returns : goal.returns
returns c f s m = subst (λ x. StandsFor (with_part c.args.out f) x) (sym c.hold.ensures) (put_stands f c.args.self.now c.args.out s m)
