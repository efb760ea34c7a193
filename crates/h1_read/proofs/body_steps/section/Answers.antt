use Rattle.std.proofs.Common.{◌≤◌, [], length, arith, ap, refl, length-take}
use Rattle.http_model.specs.Reading.{BadChunk, LongHead}
use Rattle.h1_read.proofs.StepLemmas.{section_ends, section_bad}
use Rattle.h1_read.proofs.TrailerLaw.{whole_from, bad_from}
use Rattle.h1_read.proofs.body_steps.section.Goals as goal

pub returns-in-Whole-clause-steps : goal.returns-in-Whole-clause-steps
returns-in-Whole-clause-steps c =
    let bytes = c.args.bytes.now in
    let part = c.split_at.result.0.now in
    let s = rw c.in-Whole.is at c.in_ok-trailers.ensures in
    let fits : c.in-Whole.used ≤ length bytes = omega (arith, s.in_range, ap length c.split_at.ensures.front, length-take c.in-Stop.n bytes) in
    (section_ends [] bytes c.in-Whole.trailers s.fields c.in-Whole.used fits s.shown (whole_from bytes part c.in-Stop.n c.in-Whole.used s.fields c.split_at.ensures.front s.in_range s.reads), refl)

pub returns-in-Bad-clause-steps : goal.returns-in-Bad-clause-steps
returns-in-Bad-clause-steps c =
    section_bad [] c.args.bytes.now BadChunk
    (bad_from c.args.bytes.now c.split_at.result.0.now c.in-Stop.n BadChunk c.split_at.ensures.front (rw c.in-Bad.is at c.in_ok-trailers.ensures))

pub returns-in-Long-clause-steps : goal.returns-in-Long-clause-steps
returns-in-Long-clause-steps c =
    section_bad [] c.args.bytes.now LongHead
    (bad_from c.args.bytes.now c.split_at.result.0.now c.in-Stop.n LongHead c.split_at.ensures.front (rw c.in-Long.is at c.in_ok-trailers.ensures))
