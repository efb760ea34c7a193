-- The sum over the entries so far, as far as it is counted.
use Rattle.std.proofs.Common.{◌≡◌, ◌-◌, ◌^◌, take, min}
use Rattle.h2_sender.specs.Sending.{held_control}
use Rattle.h2_sender.proofs.held.held_control.Given as goal

abbrev pub invariant-loop-h : goal.invariant-loop-h
invariant-loop-h l = l.bytes ≡ min (held_control (take l.h-index l.held)) (2 ^ 64 - 1)
