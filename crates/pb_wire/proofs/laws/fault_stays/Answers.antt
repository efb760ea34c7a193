use Rattle.pb_wire.proofs.Exact.{stays}
use Rattle.pb_wire.proofs.laws.fault_stays.Goals as goal

pub returns : goal.returns
returns c = stays
