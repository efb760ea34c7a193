use Rattle.std.proofs.Common.{refl, ◌∙◌, ap}
use Rattle.h1_outlet.specs.Ways.{plain}
use Rattle.h1_outlet.proofs.Putting.{fresh_stands}
use Rattle.h1_outlet.proofs.outlet.Outlet.new.Goals as goal

pub returns : goal.returns
returns c = fresh_stands _ c.args.direction refl refl refl (c.of.ensures ∙ ap plain c.new.ensures) refl refl c.new-2.ensures
