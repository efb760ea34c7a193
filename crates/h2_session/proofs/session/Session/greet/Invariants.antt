use Rattle.std.proofs.Common.{◌≤◌, ◌-◌, length}
use Rattle.h2_model.specs.Account.{Account}
use Rattle.h2_session.specs.Feeding.{KeepsRole, Reaches, Runs}
use Rattle.h2_session.proofs.session.Session.greet.Given as goal

-- the bytes so far were the preface's
abbrev pub invariant-loop-self : goal.invariant-loop-self
invariant-loop-self l =
    (l.used ≤ length l.bytes) × ((a : Account) → Runs l.fn.self a a l.bytes 0 → Reaches l.self a l.bytes l.used)
    × KeepsRole l.fn.self l.self

abbrev pub decreases-loop-self : goal.decreases-loop-self
decreases-loop-self l = length l.bytes - l.used
