-- An increment is applied, or the stream is reset for it.
use Rattle.std.proofs.Common.{refl}
use Rattle.h2_streams.specs.Changes.{changed}
use Rattle.h2_session.proofs.Increments.{absorbed}
use Rattle.h2_session.proofs.session.Session.widen_stream.Goals as goal

pub returns-then-fits_credit-clause-state : goal.returns-then-fits_credit-clause-state
unfolding changed
returns-then-fits_credit-clause-state c = λ h. rw (← c.self.view_is, c.change.ensures.streams (λ t e. tt)) refl

pub returns-then-fits_credit-clause-faulty : goal.returns-then-fits_credit-clause-faulty
unfolding changed
returns-then-fits_credit-clause-faulty c = rw (← c.self.view_is, c.change.ensures.streams (λ t e. tt)) refl

pub returns-else-fits_credit-clause-faulty : goal.returns-else-fits_credit-clause-faulty
returns-else-fits_credit-clause-faulty c = absorbed c.args.id c.args.n c.args.self.now.state
