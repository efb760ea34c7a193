use Rattle.pb_wire.proofs.Exact.{one_fault}
use Rattle.pb_wire.proofs.laws.one_first_fault.Goals as goal

pub returns : goal.returns
returns c = one_fault
