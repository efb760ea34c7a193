use Rattle.std.proofs.Common.{◌≡◌, drop}
use Rattle.h1_read.specs.Places.{places, is_quiet}
use Rattle.h1_read.proofs.place.first_stop.Given as goal

abbrev pub invariant-loop-at : goal.invariant-loop-at
invariant-loop-at l =
    (places l.fn.place l.bytes ≡ places l.now (drop l.at l.bytes)) × (is_quiet l.fn.place l.bytes ≡ is_quiet l.now (drop l.at l.bytes))
