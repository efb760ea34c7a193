use Rattle.std.proofs.Common.{ap}
use Rattle.std.specs.Prelude.{take}
use Rattle.hub_model.specs.HubCalls.{place}
use Rattle.hub_model.specs.World.{Line}
use Rattle.hub_model.specs.Happens.{happens, world}
use Rattle.hub_model.proofs.Apart.{came_all-apart}
use Rattle.hub_model.proofs.laws.streams_apart.Goals as goal

pub returns : goal.returns
unfolding happens world
returns c = λ f h x n bytes apart. ap (λ (l : Line). l.view) (came_all-apart f (take n bytes) (place x) (world f h) apart)
