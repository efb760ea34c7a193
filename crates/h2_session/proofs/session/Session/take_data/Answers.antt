-- DATA takes its length of both windows.
use Rattle.std.proofs.Common.{refl}
use Rattle.h2_streams.specs.Changes.{changed}
use Rattle.h2_session.proofs.Counting.{min-below}
use Rattle.h2_session.proofs.session.Session.take_data.Goals as goal

pub returns-clause-state : goal.returns-clause-state
unfolding changed
returns-clause-state c = rw (← c.self.view_is)
    (λ u t. rw (c.saturating_sub-self-inside.ensures, c.saturating_add-self-inside.ensures, c.change.ensures.streams t, min-below _ u) refl)
