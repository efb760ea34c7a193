-- The bytes that were used are one call more, also where they are refused.
use Rattle.std.proofs.Common.{◌∷◌}
use Rattle.h2_model.specs.Calls.{now, used_bytes}
use Rattle.h2_model.specs.History.{Feed}
use Rattle.h2_play.proofs.end.End.feed.Goals as goal

pub invariant_of-result : goal.invariant_of-result
invariant_of-result c =
    let q = c.self.invariant in
    (q.0, Feed (used_bytes c.args.bytes.now (now q.0 q.1)) ∷ q.1, c.in-Ok.ensures.stands q.0 q.1 q.2, tt)

pub invariant_of-result-in-Err-Code : goal.invariant_of-result-in-Err-Code
invariant_of-result-in-Err-Code c =
    let q = c.self.invariant in
    (q.0, Feed (used_bytes c.args.bytes.now (now q.0 q.1)) ∷ q.1, rw c.in-Err-Code.field-0-is at c.in-Err-Code.ensures.refused q.0 q.1 q.2, tt)
