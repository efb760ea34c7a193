-- A window update of a stream gives its bytes back.
use Rattle.std.proofs.Common.{refl}
use Rattle.h2_streams.specs.Changes.{changed}
use Rattle.h2_session.proofs.session.Session.give_back_on.Goals as goal

pub returns-clause-state : goal.returns-clause-state
unfolding changed
returns-clause-state c = rw (← c.self.view_is, c.change.ensures.streams (λ t e. tt)) refl
