-- What was passed is the front.
use Rattle.std.proofs.Common.{◌≤◌, length}
use Rattle.h2_sender.specs.Places.{IsFront}
use Rattle.h2_sender.proofs.places.front_of.Given as goal

abbrev pub invariant-loop-i : goal.invariant-loop-i
invariant-loop-i l = (l.i ≤ length l.frames.items) × IsFront l.i l.frames.items
