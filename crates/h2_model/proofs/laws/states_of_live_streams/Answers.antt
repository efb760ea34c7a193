use Rattle.h2_model.proofs.Flows.{live-state}
use Rattle.h2_model.proofs.laws.states_of_live_streams.Goals as goal

pub returns : goal.returns
returns c = live-state
