use Rattle.trace_format.proofs.ReadBack.{reads}
use Rattle.trace_format.proofs.laws.lines_are_read.Goals as goal

pub returns : goal.returns
returns c = reads
