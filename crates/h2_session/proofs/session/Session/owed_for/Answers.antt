-- What is due, and then RST_STREAM.
use Rattle.std.proofs.Common.{◌++◌, ◌∙◌, ap, sym}
use Rattle.h2_model.specs.Duties.{reset_for}
use Rattle.h2_session.specs.Steps.{due_frames}
use Rattle.h2_session.proofs.Judged.{owed-parts}
use Rattle.h2_session.proofs.session.Session.owed_for.Goals as goal

pub returns-clause-frames : goal.returns-clause-frames
returns-clause-frames c = λ b o u e.
    c.in_ok-push_reset.ensures.frames
    ∙ ap (λ xs. xs ++ reset_for c.args.fault) (c.in_ok-owed.ensures.frames b o u)
    ∙ ap (λ x. due_frames b c.args.frame.now ++ reset_for x) e
    ∙ sym (owed-parts b c.args.frame.now)
