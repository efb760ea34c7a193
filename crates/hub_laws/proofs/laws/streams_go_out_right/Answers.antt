use Rattle.hub_laws.proofs.Streams.{streams_out}
use Rattle.hub_laws.proofs.laws.streams_go_out_right.Goals as goal

pub returns : goal.returns
returns c = streams_out
