use Rattle.h1_outlet.proofs.Putting.{owed_stands}
use Rattle.h1_outlet.proofs.outlet.Outlet.owe_interim.Goals as goal

pub returns : goal.returns
returns c f s m = owed_stands f c.args.self.now s m
