-- The frames before `at` are of other streams, and those of the stream among them have entered the queue.
use Rattle.std.proofs.Common.{◌≡◌, ◌≤◌, ◌-◌, take, drop, length}
use Rattle.std.specs.Prelude.{vec_len, vec_capacity}
use Rattle.h2_sender.proofs.Release.{IsReleasing}
use Rattle.h2_sender.proofs.held.release_held.Given as goal

abbrev pub invariant-loop-at : goal.invariant-loop-at
invariant-loop-at l = record {
  within : l.at ≤ length l.held.items;
  releasing : IsReleasing l.id l.initial.held.items l.initial.queue (take l.at l.held.items) (drop l.at l.held.items) l.queue;
  len : vec_len l.held ≤ vec_len l.initial.held;
  capacity : vec_capacity l.held ≡ vec_capacity l.initial.held;
}

abbrev pub decreases-loop-at : goal.decreases-loop-at
decreases-loop-at l = vec_len l.held - l.at
