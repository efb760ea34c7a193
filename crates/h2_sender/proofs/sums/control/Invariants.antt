-- The sum over the frames so far, as far as it is counted.
use Rattle.std.proofs.Common.{◌≡◌, ◌-◌, ◌^◌, take, min}
use Rattle.h2_model.specs.Queue.{control_bytes}
use Rattle.h2_sender.proofs.sums.control.Given as goal

abbrev pub invariant-loop-i : goal.invariant-loop-i
invariant-loop-i l = l.sum ≡ min (control_bytes (take l.i l.frames.items)) (2 ^ 64 - 1)
