use Rattle.std.proofs.Common.{◌∙◌, ap, subst, arith}
use Rattle.std.specs.Prelude.{◌≡◌, ◌-◌, ◌++◌, length, take, min}
use Rattle.http_model.specs.Reading.{Partial, BadChunk}
use Rattle.http_model.specs.Lines.{chunk_line}
use Rattle.http_model.proofs.LinesStable.{chunk_line-stays}
use Rattle.h1_read.proofs.Kept.{found_behind, found_in_all, bad_in_all, all_came}
use Rattle.h1_read.proofs.ChunkLines.{line_local, line_short}
use Rattle.h1_read.proofs.chunk_line.keep_line.Goals as goal

pub overflow_sub-old : goal.overflow_sub-old
overflow_sub-old c = omega (arith, line_short c.args.kept.now.items c.requires, ap length c.as_slice-old.ensures.value)

pub overflow_sub-result : goal.overflow_sub-result
overflow_sub-result c =
    let kept = c.args.kept.now.items in
    let part = take c.min-part.result c.args.bytes.now in
    let now : c.as_slice.result.now ≡ kept ++ part = c.as_slice.ensures.value ∙ c.in_ok-extend_from_slice.ensures.items in
    rw c.as_slice-old.ensures.value
    (found_behind chunk_line line_local kept part c.in-Whole.used c.in-Whole.size c.requires (rw now at c.in-Whole.ensures.inside) (rw now at c.in-Whole.ensures.exact))

pub returns-in-Whole-clause-exact : goal.returns-in-Whole-clause-exact
returns-in-Whole-clause-exact c =
    let kept = c.args.kept.now.items in
    let part = take c.min-part.result c.args.bytes.now in
    let now : c.as_slice.result.now ≡ kept ++ part = c.as_slice.ensures.value ∙ c.in_ok-extend_from_slice.ensures.items in
    let behind = found_behind chunk_line line_local kept part c.in-Whole.used c.in-Whole.size c.requires (rw now at c.in-Whole.ensures.inside) (rw now at c.in-Whole.ensures.exact) in
    rw c.as_slice-old.ensures.value
    (found_in_all chunk_line chunk_line-stays kept c.args.bytes.now c.min-part.result c.in-Whole.used c.in-Whole.size behind (rw now at c.in-Whole.ensures.inside) (rw now at c.in-Whole.ensures.exact))

pub returns-in-Partial-clause-exact : goal.returns-in-Partial-clause-exact
returns-in-Partial-clause-exact c =
    let kept = c.args.kept.now.items in
    let part = take c.min-part.result c.args.bytes.now in
    let now : c.as_slice.result.now ≡ kept ++ part = c.as_slice.ensures.value ∙ c.in_ok-extend_from_slice.ensures.items in
    let none : chunk_line (kept ++ part) ≡ Partial = rw now at c.in-Partial.ensures.exact in
    subst (λ l. chunk_line (kept ++ l) ≡ Partial) (all_came 4096 c.min-part.result kept c.args.bytes.now (line_short (kept ++ part) none) (c.min-part.ensures ∙ ap (λ l. min (length c.args.bytes.now) (4096 - length l)) c.as_slice-old.ensures.value)) none

pub returns-in-Partial-clause-kept : goal.returns-in-Partial-clause-kept
returns-in-Partial-clause-kept c =
    let kept = c.args.kept.now.items in
    let part = take c.min-part.result c.args.bytes.now in
    let now : c.as_slice.result.now ≡ kept ++ part = c.as_slice.ensures.value ∙ c.in_ok-extend_from_slice.ensures.items in
    let none : chunk_line (kept ++ part) ≡ Partial = rw now at c.in-Partial.ensures.exact in
    c.in_ok-extend_from_slice.ensures.items
    ∙ ap (λ l. kept ++ l) (all_came 4096 c.min-part.result kept c.args.bytes.now (line_short (kept ++ part) none) (c.min-part.ensures ∙ ap (λ l. min (length c.args.bytes.now) (4096 - length l)) c.as_slice-old.ensures.value))

pub returns-in-Bad-clause-exact : goal.returns-in-Bad-clause-exact
returns-in-Bad-clause-exact c =
    let kept = c.args.kept.now.items in
    let part = take c.min-part.result c.args.bytes.now in
    let now : c.as_slice.result.now ≡ kept ++ part = c.as_slice.ensures.value ∙ c.in_ok-extend_from_slice.ensures.items in
    bad_in_all chunk_line chunk_line-stays kept c.args.bytes.now c.min-part.result BadChunk (rw now at c.in-Bad.ensures.exact)
