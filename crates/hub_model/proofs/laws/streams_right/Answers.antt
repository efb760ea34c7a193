use Rattle.hub_model.proofs.Streams.{streams_right}
use Rattle.hub_model.proofs.laws.streams_right.Goals as goal

pub returns : goal.returns
returns c = streams_right
