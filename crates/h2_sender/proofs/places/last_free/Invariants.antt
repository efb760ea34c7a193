-- None behind the place.
use Rattle.std.proofs.Common.{◌≡◌, ◌≤◌, [], drop}
use Rattle.std.specs.List.{filter}
use Rattle.h2_model.specs.Queue.{is_free_of}
use Rattle.h2_sender.proofs.places.last_free.Given as goal

abbrev pub invariant-loop-i : goal.invariant-loop-i
invariant-loop-i l = (l.front ≤ l.i) × (filter (is_free_of l.stream) (drop l.i l.frames.items) ≡ [])
