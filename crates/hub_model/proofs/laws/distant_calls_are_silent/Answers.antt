use Rattle.hub_model.specs.HubCalls.{place}
use Rattle.hub_model.specs.Happens.{world}
use Rattle.hub_model.proofs.Quiet.{silent}
use Rattle.hub_model.proofs.laws.distant_calls_are_silent.Goals as goal

pub returns : goal.returns
unfolding world
returns c = λ f call h x there far. silent f call (world f h) (place x) there far
