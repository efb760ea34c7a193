-- A stream above all others is the last.
use Rattle.std.proofs.Common.{refl}
use Rattle.h2_model.specs.Moves.{opening}
use Rattle.h2_session.proofs.session.Session.add_stream.Goals as goal

pub returns-clause-state : goal.returns-clause-state
unfolding opening
returns-clause-state c = rw (← c.self.view_is)
    (λ h. rw (c.open-2.ensures.streams (rw c.reserve.ensures.streams h), c.reserve.ensures.streams) refl)
