-- The sum over the entries so far.
use Rattle.std.proofs.Common.{◌≡◌, take}
use Rattle.h2_model.specs.Windows.{held_data}
use Rattle.h2_sender.proofs.held.held_data.Given as goal

abbrev pub invariant-loop-h : goal.invariant-loop-h
invariant-loop-h l = l.«data» ≡ held_data 0 (take l.h-index l.held)
