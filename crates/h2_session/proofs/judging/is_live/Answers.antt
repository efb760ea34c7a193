use Rattle.std.proofs.Common.{◌∙◌, sym}
use Rattle.h2_session.proofs.Judged.{its-stream, no-stream}
use Rattle.h2_session.proofs.judging.is_live.Goals as goal

pub returns-in-Some : goal.returns-in-Some
returns-in-Some c = λ b e. sym (its-stream c.args.streams.now.streams b c.args.id _ e (sym c.in-Some.is ∙ c.get.ensures.stream)).0

pub returns-in-None : goal.returns-in-None
returns-in-None c = λ b e. sym (no-stream c.args.streams.now.streams b c.args.id e (sym c.in-None.is ∙ c.get.ensures.stream))
