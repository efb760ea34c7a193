use Rattle.trace_player.proofs.Stages.{at_end}
use Rattle.trace_player.proofs.stage.known.Goals as goal

pub returns-in-Ended : goal.returns-in-Ended
returns-in-Ended c = λ p t. at_end p c.args.line.now (rw c.in-Ended.is at t)
