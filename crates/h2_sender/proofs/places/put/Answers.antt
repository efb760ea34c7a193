-- There is room for the frame.
use Rattle.std.proofs.Common.{arith, ◌≤◌}
use Rattle.std.specs.VecDeque.{deque_len, deque_capacity}
use Rattle.h2_sender.proofs.Placed.{ok_holds}
use Rattle.h2_sender.proofs.places.put.Goals as goal

pub returns-clause-items : goal.returns-clause-items
returns-clause-items c =
    ok_holds c.insert.result c.insert.ensures.items c.insert.ensures.full (λ (full : deque_capacity c.args.frames.now ≤ deque_len c.args.frames.now). omega arith)
