use Rattle.std.proofs.Common.{◌≡◌, sym, subst}
use Rattle.h2_frames.specs.declared.frame.Frame.{Frame}
use Rattle.h2_session.specs.Steps.{is_on_live}
use Rattle.h2_session.proofs.judging.is_on_live.Goals as goal

pub returns-in-Data-default : goal.returns-in-Data-default
returns-in-Data-default c = λ b e.
    subst (λ (f : Frame). c.is_live.result ≡ is_on_live b f c.args.whole.now) (sym c.in-Data-default.is-0) (c.is_live.ensures b e)

pub returns-in-Reset-default : goal.returns-in-Reset-default
returns-in-Reset-default c = λ b e.
    subst (λ (f : Frame). c.is_live-in-Reset-default.result ≡ is_on_live b f c.args.whole.now) (sym c.in-Reset-default.is-0) (c.is_live-in-Reset-default.ensures b e)
