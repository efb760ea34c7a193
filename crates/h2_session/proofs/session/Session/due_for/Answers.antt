-- What DATA makes due; the sums that it counts in are those of its own length.
use Rattle.h2_session.proofs.session.Session.due_for.Goals as goal

pub returns-in-Data-clause-frames : goal.returns-in-Data-clause-frames
returns-in-Data-clause-frames c = λ b o. rw c.in-Data.is (λ u. c.due_for_data.ensures.frames b o u.0 u.1)
