use Rattle.std.proofs.Common.{take}
use Rattle.trace_format.proofs.Parted.{NoSpace}
use Rattle.trace_format.proofs.parts.parted.Given as goal

-- no space so far
abbrev pub invariant-loop-i : goal.invariant-loop-i
invariant-loop-i l = NoSpace (take l.i l.text)
