use Rattle.std.proofs.Common.{sym, ◌∙◌, ap, subst, refl, []}
use Rattle.std.specs.Prelude.{◌≡◌, ◌++◌, length}
use Rattle.h1_read.specs.Remaining.{GivesContent}
use Rattle.h1_read.specs.Remaining as rest
use Rattle.http_model.specs.Reading.{BadChunk, LongHead}
use Rattle.h1_read.proofs.StepLemmas.{section_ends, section_partial, section_bad, section_goes_on}
use Rattle.h1_read.proofs.body_steps.whole_section.Goals as goal

pub returns-in-Whole-clause-steps : goal.returns-in-Whole-clause-steps
returns-in-Whole-clause-steps c =
    let s = rw c.in-Whole.is at c.in_ok-trailers.ensures in
    (section_ends [] c.args.bytes.now c.in-Whole.trailers s.fields c.in-Whole.used s.in_range s.shown s.reads, refl)

pub returns-in_ok-extend_from_slice-in-Partial-clause-steps : goal.returns-in_ok-extend_from_slice-in-Partial-clause-steps
returns-in_ok-extend_from_slice-in-Partial-clause-steps c =
    let bytes = c.args.bytes.now in
    let exact = rw c.in-Partial.is at c.in_ok-trailers.ensures in
    let kept : c.extend_from_slice.new.self.items ≡ bytes = c.in_ok-extend_from_slice-in-Partial.ensures.items ∙ ap (λ l. l ++ bytes) c.new-begun.ensures.items in
    (refl, subst (λ l. GivesContent (rest.Trailers []) bytes (length bytes) [] (rest.Trailers l)) (sym kept) (section_goes_on [] bytes), section_partial [] bytes exact)

pub returns-in-Bad-clause-steps : goal.returns-in-Bad-clause-steps
returns-in-Bad-clause-steps c = section_bad [] c.args.bytes.now BadChunk (rw c.in-Bad.is at c.in_ok-trailers.ensures)

pub returns-in-Long-clause-steps : goal.returns-in-Long-clause-steps
returns-in-Long-clause-steps c = section_bad [] c.args.bytes.now LongHead (rw c.in-Long.is at c.in_ok-trailers.ensures)
