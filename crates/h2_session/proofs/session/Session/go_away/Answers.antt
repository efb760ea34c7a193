-- What the sender drops and adds.
use Rattle.std.proofs.Common.{refl}
use Rattle.h2_laws_log.specs.Calling.{failing}
use Rattle.h2_session.proofs.session.Session.go_away.Goals as goal

pub returns-clause-state : goal.returns-clause-state
unfolding failing
returns-clause-state c =
    rw (c.fail.ensures.waiting, c.fail.ensures.held, c.fail.ensures.window, c.last_of_peer-last.ensures, ← c.self.view_is) refl
