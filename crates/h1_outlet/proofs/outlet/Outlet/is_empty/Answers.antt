use Rattle.std.proofs.Common.{◌∙◌}
use Rattle.h1_outlet.proofs.Putting.{idle_is}
use Rattle.h1_outlet.proofs.outlet.Outlet.is_empty.Goals as goal

pub returns : goal.returns
returns c f s = c.is_idle-idle.ensures ∙ idle_is f c.args.self.now s
