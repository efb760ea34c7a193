-- The bytes that were given are one call more.
use Rattle.std.proofs.Common.{◌∷◌}
use Rattle.h2_model.specs.History.{Take}
use Rattle.h2_play.proofs.end.End.take.Goals as goal

pub invariant_of-self : goal.invariant_of-self
invariant_of-self c =
    let q = c.self.invariant in
    (q.0, Take c.take-count.result ∷ q.1, c.take-count.ensures.stands q.0 q.1 q.2, tt)

pub invariant_of-self-2 : goal.invariant_of-self-2
invariant_of-self-2 c =
    let q = c.self.invariant in
    (q.0, Take c.take-count.result ∷ q.1, c.take-count.ensures.stands q.0 q.1 q.2, tt)
