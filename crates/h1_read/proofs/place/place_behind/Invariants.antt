use Rattle.std.proofs.Common.{◌≡◌, drop}
use Rattle.h1_read.specs.Places.{places}
use Rattle.h1_read.proofs.place.place_behind.Given as goal

abbrev pub invariant-loop-at : goal.invariant-loop-at
invariant-loop-at l = places l.fn.place l.bytes ≡ places l.now (drop l.at l.bytes)
