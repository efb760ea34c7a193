use Rattle.std.proofs.Common.{◌∙◌, ap, subst, arith, length-append, length-take}
use Rattle.std.specs.Prelude.{◌≡◌, ◌-◌, ◌++◌, length, take, min}
use Rattle.http_model.specs.Reading.{Partial, BadChunk, LongHead}
use Rattle.h1_read.specs.Sections.{trailer_section}
use Rattle.h1_read.proofs.Kept.{found_behind, found_in_all, bad_in_all, all_came, front_back}
use Rattle.h1_read.proofs.SectionLocal.{trailers_local, trailers_stay, trailers_short}
use Rattle.h1_read.proofs.trailers.keep_section.Goals as goal

pub overflow_sub-old : goal.overflow_sub-old
overflow_sub-old c = omega (arith, trailers_short c.args.kept.now.items c.requires.begun, ap length c.as_slice-old.ensures.value)

pub read_section-requires : goal.read_section-requires
read_section-requires c =
    let kept = c.args.kept.now.items in
    let part = take c.min-part.result c.args.bytes.now in
    let now : c.as_slice.result.now ≡ kept ++ part = c.as_slice.ensures.value ∙ c.in_ok-extend_from_slice.ensures.items in
    omega (arith, trailers_short kept c.requires.begun, ap length now, length-append kept part, length-take c.min-part.result c.args.bytes.now, c.min-part.ensures, ap length c.as_slice-old.ensures.value)

pub overflow_sub-result : goal.overflow_sub-result
overflow_sub-result c =
    let kept = c.args.kept.now.items in
    let part = take c.min-part.result c.args.bytes.now in
    let now : c.as_slice.result.now ≡ kept ++ part = c.as_slice.ensures.value ∙ c.in_ok-extend_from_slice.ensures.items in
    let s = rw (now, c.in-Ok-Whole.field-0-is) at c.in-Ok-Whole.ensures in
    rw c.as_slice-old.ensures.value
    (found_behind trailer_section trailers_local kept part c.in-Ok-Whole.used s.fields c.requires.begun s.in_range s.reads)

pub returns-in-Ok-Whole-clause-exact : goal.returns-in-Ok-Whole-clause-exact
returns-in-Ok-Whole-clause-exact c =
    let kept = c.args.kept.now.items in
    let part = take c.min-part.result c.args.bytes.now in
    let now : c.as_slice.result.now ≡ kept ++ part = c.as_slice.ensures.value ∙ c.in_ok-extend_from_slice.ensures.items in
    let s = rw (now, c.in-Ok-Whole.field-0-is) at c.in-Ok-Whole.ensures in
    let behind = found_behind trailer_section trailers_local kept part c.in-Ok-Whole.used s.fields c.requires.begun s.in_range s.reads in
    rw c.as_slice-old.ensures.value (
      record {
        inside = omega (arith, s.in_range, length-append kept part, length-take c.min-part.result c.args.bytes.now);
        fields = s.fields;
        shown = s.shown;
        reads = found_in_all trailer_section trailers_stay kept c.args.bytes.now c.min-part.result c.in-Ok-Whole.used s.fields behind s.in_range s.reads;
      },
      c.truncate.ensures.items ∙ front_back kept part c.extend_from_slice.new.self.items (length c.as_slice-old.result.now) c.in_ok-extend_from_slice.ensures.items (ap length c.as_slice-old.ensures.value),
    )

pub returns-in-Ok-Partial-clause-exact : goal.returns-in-Ok-Partial-clause-exact
returns-in-Ok-Partial-clause-exact c =
    let kept = c.args.kept.now.items in
    let part = take c.min-part.result c.args.bytes.now in
    let now : c.as_slice.result.now ≡ kept ++ part = c.as_slice.ensures.value ∙ c.in_ok-extend_from_slice.ensures.items in
    let none : trailer_section (kept ++ part) ≡ Partial = rw (now, c.in-Ok-Partial.field-0-is) at c.in-Ok-Partial.ensures in
    let all = all_came 32768 c.min-part.result kept c.args.bytes.now (trailers_short (kept ++ part) none)
    (c.min-part.ensures ∙ ap (λ l. min (length c.args.bytes.now) (32768 - length l)) c.as_slice-old.ensures.value) in
    (subst (λ l. trailer_section (kept ++ l) ≡ Partial) all none, c.in_ok-extend_from_slice.ensures.items ∙ ap (λ l. kept ++ l) all)

pub returns-in-Ok-Bad-clause-exact : goal.returns-in-Ok-Bad-clause-exact
returns-in-Ok-Bad-clause-exact c =
    let kept = c.args.kept.now.items in
    let part = take c.min-part.result c.args.bytes.now in
    let now : c.as_slice.result.now ≡ kept ++ part = c.as_slice.ensures.value ∙ c.in_ok-extend_from_slice.ensures.items in
    (bad_in_all trailer_section trailers_stay kept c.args.bytes.now c.min-part.result BadChunk (rw (now, c.in-Ok-Bad.field-0-is) at c.in-Ok-Bad.ensures), c.truncate-in-Ok-Bad.ensures.items ∙ front_back kept part c.extend_from_slice.new.self.items (length c.as_slice-old.result.now) c.in_ok-extend_from_slice.ensures.items (ap length c.as_slice-old.ensures.value))

pub returns-in-Ok-Long-clause-exact : goal.returns-in-Ok-Long-clause-exact
returns-in-Ok-Long-clause-exact c =
    let kept = c.args.kept.now.items in
    let part = take c.min-part.result c.args.bytes.now in
    let now : c.as_slice.result.now ≡ kept ++ part = c.as_slice.ensures.value ∙ c.in_ok-extend_from_slice.ensures.items in
    (bad_in_all trailer_section trailers_stay kept c.args.bytes.now c.min-part.result LongHead (rw (now, c.in-Ok-Long.field-0-is) at c.in-Ok-Long.ensures), c.truncate-in-Ok-Long.ensures.items ∙ front_back kept part c.extend_from_slice.new.self.items (length c.as_slice-old.result.now) c.in_ok-extend_from_slice.ensures.items (ap length c.as_slice-old.ensures.value))
