use Rattle.std.proofs.Common.{ap, Err}
use Rattle.trace_player.proofs.Stages.{no_line, with_line}
use Rattle.trace_player.proofs.stage.step.Goals as goal

pub returns-in-Ok : goal.returns-in-Ok
returns-in-Ok c = λ p t. with_line p c.args.text.now c.in-Ok.line c.in_ok-met-in-Ok.met c.in-Ok.ensures.read (c.in_ok-met-in-Ok.ensures p t)

pub returns : goal.returns
returns c = λ p t. no_line p c.args.text.now (c.in-Err-Bad.ensures.bad (ap Err c.in-Err-Bad.field-0-is))
