use Rattle.std.proofs.Common.{[], Err, ap, subst, ◌∙◌}
use Rattle.http_model.specs.Lines.{chunk_line}
use Rattle.h1_read.specs.Remaining as rest
use Rattle.h1_read.specs.Stages.{rest_of, BodySteps}
use Rattle.h1_read.proofs.BodyMoves.{no_line}
use Rattle.h1_read.proofs.StepLemmas.{then_fed, then_steps}
use Rattle.h1_read.proofs.body_steps.next_line.Goals as goal

pub line-requires-clause-begun : goal.line-requires-clause-begun
line-requires-clause-begun c = ap chunk_line c.clear.ensures.items ∙ no_line

pub returns-in-Ok-clause-steps : goal.returns-in-Ok-clause-steps
returns-in-Ok-clause-steps c before gives =
    let fed = c.in-Ok.fed in
    let steps = rw (c.clear.ensures.items, c.split_at.ensures.back) at c.in-Ok.ensures.steps in
    rw c.behind.ensures
    (then_fed before (rest.Line []) (rest_of fed.stage c.line.new.kept.items) c.args.bytes.now c.args.at fed.piece fed.used c.requires.inside gives steps)

pub returns-in-Err-clause-steps : goal.returns-in-Err-clause-steps
returns-in-Err-clause-steps c before gives =
    then_steps before (rest.Line []) c.args.bytes.now c.line.new.kept.items c.args.at c.in-Err.stop gives
    (subst (λ l. BodySteps (rest.Line []) l c.line.new.kept.items (Err c.in-Err.stop)) c.split_at.ensures.back
    (subst (λ k. BodySteps (rest.Line k) c.split_at.result.1.now c.line.new.kept.items (Err c.in-Err.stop)) c.clear.ensures.items c.in-Err.ensures.steps))
