-- The first frames are counted.
use Rattle.std.proofs.Common.{◌≤◌, take}
use Rattle.std.specs.VecDeque.{deque_capacity}
use Rattle.h2_sender.specs.Shares.{AreShared}
use Rattle.h2_sender.proofs.shares.recount.Given as goal

abbrev pub invariant-loop-i : goal.invariant-loop-i
invariant-loop-i l = AreShared (take l.i l.frames.items) l.shares.items × (deque_capacity l.fn.shares ≤ deque_capacity l.shares)
