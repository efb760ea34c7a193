use Rattle.std.proofs.Common.{take}
use Rattle.h1_read.proofs.LineParts.{Lacks}
use Rattle.h1_read.proofs.scan.line_end.Given as goal

abbrev pub invariant-loop-at : goal.invariant-loop-at
invariant-loop-at l = Lacks 10 (take l.at l.bytes)
