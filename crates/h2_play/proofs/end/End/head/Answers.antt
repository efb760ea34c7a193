-- The head, with the block that it was encoded to, is one call more.
use Rattle.std.proofs.Common.{◌∷◌}
use Rattle.h2_model.specs.History.{Head}
use Rattle.h2_play.proofs.end.End.head.Goals as goal

pub invariant_of-self-2 : goal.invariant_of-self-2
invariant_of-self-2 c =
    let q = c.self.invariant in
    let h = c.in_ok-head.ensures.stands q.0 q.1 q.2 in
    (q.0, Head c.args.id _ h.0 c.args.last ∷ q.1, h.1, tt)
