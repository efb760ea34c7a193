use Rattle.std.proofs.Common.{◌≤◌, ◌-◌, length}
use Rattle.h2_model.specs.Account.{Account}
use Rattle.h2_session.specs.Feeding.{Greets, KeepsRole}
use Rattle.h2_session.proofs.session.Session.read.Given as goal

-- the frames so far brought nothing
abbrev pub invariant-loop-used : goal.invariant-loop-used
invariant-loop-used l =
    (l.used ≤ length l.bytes) × ((a : Account) → Greets l.fn.self a l.bytes l.from → Greets l.self a l.bytes l.used)
    × KeepsRole l.fn.self l.self

abbrev pub decreases-loop-used : goal.decreases-loop-used
decreases-loop-used l = length l.bytes - l.used
