-- A head that came may be an interim one.
use Rattle.std.proofs.Common.{refl}
use Rattle.h2_streams.specs.Changes.{changed}
use Rattle.h2_session.proofs.session.Session.tell_head.Goals as goal

pub returns-clause-state : goal.returns-clause-state
unfolding changed
returns-clause-state c = rw (← c.self.view_is, c.change.ensures.streams (λ t e. tt), c.is_interim-interim.ensures) refl
