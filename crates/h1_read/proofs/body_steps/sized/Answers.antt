use Rattle.std.proofs.Common.{arith, subst, [], Err}
use Rattle.h1_read.specs.Remaining as rest
use Rattle.h1_read.proofs.StepLemmas.{starts_within, used_within, then_fed, then_steps}
use Rattle.h1_read.specs.Stages.{rest_of, BodySteps}
use Rattle.h1_read.proofs.body_steps.sized.Goals as goal

pub behind-requires-clause-order : goal.behind-requires-clause-order
behind-requires-clause-order c =
    starts_within (rest.Chunk c.args.size) (rest_of c.data_of.result.stage []) c.split_at.result.1.now c.data_of.result.piece c.data_of.result.used (c.data_of.ensures.feeds [])

pub behind-requires-clause-fits : goal.behind-requires-clause-fits
behind-requires-clause-fits c =
    let used = used_within (rest.Chunk c.args.size) (rest_of c.data_of.result.stage []) c.split_at.result.1.now c.data_of.result.piece c.data_of.result.used (c.data_of.ensures.feeds []) in
    omega (arith, used, c.requires.inside, c.requires.short, c.split_at.ensures.back_len)

pub returns-then-size-gt0-clause-steps : goal.returns-then-size-gt0-clause-steps
returns-then-size-gt0-clause-steps c before some none =
    let fed = c.data_of.result in
    let old = c.args.kept.now.items in
    rw c.behind.ensures
    (then_fed before (rest.Chunk c.args.size) (rest_of fed.stage old) c.args.bytes.now c.args.used fed.piece fed.used c.requires.inside (some c.if-size-gt0.true)
    (rw c.split_at.ensures.back at (c.data_of.ensures.feeds old)))

pub returns-in-Ok-clause-steps : goal.returns-in-Ok-clause-steps
returns-in-Ok-clause-steps c before some none =
    let fed = c.in-Ok.fed in
    rw c.behind-in-Ok.ensures
    (then_fed before (rest.Trailers []) (rest_of fed.stage c.section.new.kept.items) c.args.bytes.now c.args.used fed.piece fed.used c.requires.inside
    (none (omega (arith, c.if-size-gt0.false))) (rw c.split_at.ensures.back at c.in-Ok.ensures.steps))

pub returns-in-Err-clause-steps : goal.returns-in-Err-clause-steps
returns-in-Err-clause-steps c before some none =
    then_steps before (rest.Trailers []) c.args.bytes.now c.section.new.kept.items c.args.used c.in-Err.stop
    (none (omega (arith, c.if-size-gt0.false)))
    (subst (λ l. BodySteps (rest.Trailers []) l c.section.new.kept.items (Err c.in-Err.stop)) c.split_at.ensures.back c.in-Err.ensures.steps)
