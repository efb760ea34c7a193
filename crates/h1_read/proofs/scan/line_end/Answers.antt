use Rattle.h1_read.proofs.LineScan.{line_found}
use Rattle.h1_read.proofs.scan.line_end.Goals as goal

pub returns-then-bytes-at-eq10 : goal.returns-then-bytes-at-eq10
returns-then-bytes-at-eq10 c = line_found c.args.bytes.now c.loop-at.at c.loop-at-test.true c.loop-at.invariant c.if-bytes-at-eq10.true
