use Rattle.h1_read.proofs.TurnLaw.{Run}
use Rattle.h1_read.proofs.step.response_step.Given as goal

abbrev pub invariant-loop-i : goal.invariant-loop-i
invariant-loop-i l = Run l.to_head l.bytes l.i l.at
