use Rattle.std.proofs.Common.{◌≡◌, ◌++◌, [], length, arith, subst, sym, refl}
use Rattle.http_model.specs.Reading.{BadChunk, LongHead}
use Rattle.h1_read.specs.Remaining as rest
use Rattle.h1_read.specs.Remaining.{GivesContent}
use Rattle.h1_read.proofs.SectionLocal.{trailers_short}
use Rattle.h1_read.proofs.TrailerLaw.{quiet_on}
use Rattle.h1_read.proofs.StepLemmas.{section_ends, section_partial, section_bad, section_goes_on}
use Rattle.h1_read.proofs.body_steps.trailers.Goals as goal

pub returns-in-Whole-clause-steps : goal.returns-in-Whole-clause-steps
returns-in-Whole-clause-steps c =
    let s = (rw c.in-Whole.is at c.in_ok-trailers.ensures.exact).0 in
    (section_ends c.args.kept.now.items c.args.bytes.now c.in-Whole.trailers s.fields c.in-Whole.used s.inside s.shown s.reads, refl)

pub returns-in-Partial-clause-steps : goal.returns-in-Partial-clause-steps
returns-in-Partial-clause-steps c =
    let exact = rw c.in-Partial.is at c.in_ok-trailers.ensures.exact in
    (refl, rw exact.1 (section_goes_on c.args.kept.now.items c.args.bytes.now), section_partial c.args.kept.now.items c.args.bytes.now exact.0)

pub returns-in-Bad-clause-steps : goal.returns-in-Bad-clause-steps
returns-in-Bad-clause-steps c = section_bad c.args.kept.now.items c.args.bytes.now BadChunk (rw c.in-Bad.is at c.in_ok-trailers.ensures.exact).0

pub returns-in-Long-clause-steps : goal.returns-in-Long-clause-steps
returns-in-Long-clause-steps c = section_bad c.args.kept.now.items c.args.bytes.now LongHead (rw c.in-Long.is at c.in_ok-trailers.ensures.exact).0

pub next_stop-requires : goal.next_stop-requires
next_stop-requires c = omega (arith, c.len.ensures, trailers_short c.args.kept.now.items c.requires.begun)

pub returns-in-Quiet-clause-steps : goal.returns-in-Quiet-clause-steps
returns-in-Quiet-clause-steps c =
    let old = c.args.kept.now.items in
    let bytes = c.args.bytes.now in
    let kept : c.extend_from_slice.new.self.items ≡ old ++ bytes = c.in_ok-extend_from_slice.ensures.items in
    let on = quiet_on old bytes c.extend_from_slice.new.self.items c.args.place c.in-Quiet.end c.requires.begun c.requires.here c.in-Quiet.ensures.0
    (omega (arith, c.len.ensures, c.in-Quiet.ensures.1)) kept in
    (refl, subst (λ l. GivesContent (rest.Trailers old) bytes (length bytes) [] (rest.Trailers l)) (sym kept) (section_goes_on old bytes), section_partial old bytes on.open_still)

pub returns-in-Quiet-clause-begun : goal.returns-in-Quiet-clause-begun
returns-in-Quiet-clause-begun c =
    let on = quiet_on c.args.kept.now.items c.args.bytes.now c.extend_from_slice.new.self.items c.args.place c.in-Quiet.end c.requires.begun c.requires.here c.in-Quiet.ensures.0
    (omega (arith, c.len.ensures, c.in-Quiet.ensures.1)) c.in_ok-extend_from_slice.ensures.items in
    (on.begun, on.here)
