use Rattle.std.proofs.Common.{arith, refl}
use Rattle.h1_read.specs.Remaining as rest
use Rattle.h1_read.proofs.BodyMoves.{chunk_begins, chunks_end, line_awaits, line_goes_on, line_bad}
use Rattle.h1_read.proofs.body_steps.told_line.Goals as goal

pub returns-in-Partial-clause-steps : goal.returns-in-Partial-clause-steps
returns-in-Partial-clause-steps c =
    let exact = rw c.in-Partial.is at c.in_ok-keep_line_until.ensures.exact in
    let kept = rw c.in-Partial.is at c.in_ok-keep_line_until.ensures.kept in
    (refl, rw kept (line_goes_on c.args.kept.now.items c.args.bytes.now), line_awaits c.args.kept.now.items c.args.bytes.now exact)

pub returns-in-Bad-clause-steps : goal.returns-in-Bad-clause-steps
returns-in-Bad-clause-steps c = line_bad c.args.kept.now.items c.args.bytes.now (rw c.in-Bad.is at c.in_ok-keep_line_until.ensures.exact)

pub returns-in-Whole-clause-steps : goal.returns-in-Whole-clause-steps
returns-in-Whole-clause-steps c =
    let old = c.args.kept.now.items in
    let used = c.in-Whole.used in
    let exact = rw c.in-Whole.is at c.in_ok-keep_line_until.ensures.exact in
    c.sized.ensures.steps (rest.Line old)
    (λ h. chunk_begins old c.args.bytes.now used c.in-Whole.size exact (λ e. omega (arith, h, e)))
    (λ e. chunks_end old c.args.bytes.now used (rw e at exact))
