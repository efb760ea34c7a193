-- The place among the frames from here on, and that none of them blocks the way.
use Rattle.std.proofs.Common.{◌≡◌, ◌≤◌, ◌+◌, drop, false}
use Rattle.std.specs.List.{list_any}
use Rattle.h2_model.specs.Queue.{stays_behind}
use Rattle.h2_sender.specs.Places.{place_of}
use Rattle.h2_sender.proofs.places.place_of.Given as goal

abbrev pub invariant-places : goal.invariant-places
invariant-places l = (l.front ≤ l.i) × (l.place ≡ l.i + place_of l.new (drop l.i l.frames.items)) × (list_any (stays_behind l.new.frame) (drop l.i l.frames.items) ≡ false)
