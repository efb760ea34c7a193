use Rattle.std.proofs.Common.{◌∙◌, ap, arith, length-take}
use Rattle.std.specs.Prelude.{drop}
use Rattle.http_model.specs.Reading.{Whole, BadChunk}
use Rattle.http_model.specs.Lines.{line, chunk_line_at, chunk_line_limit, chunk_line}
use Rattle.h1_read.proofs.ByLimit.{limited_long, at_limit, behind_front}
use Rattle.h1_read.proofs.chunk_line.chunk_line.Goals as goal

pub returns-in-Whole-clause-exact : goal.returns-in-Whole-clause-exact
unfolding chunk_line
returns-in-Whole-clause-exact c =
    let bytes = c.args.bytes.now in
    limited_long chunk_line_limit BadChunk (λ front. chunk_line_at front (line front)) bytes c.if-bytes-lt-LIMIT.false
    ∙ ap (at_limit BadChunk (drop chunk_line_limit bytes)) c.in-Whole.ensures.exact
    ∙ ap (Whole c.in-Whole.size) (behind_front chunk_line_limit c.in-Whole.used bytes c.in-Whole.ensures.inside)

pub returns-in-Whole-clause-inside : goal.returns-in-Whole-clause-inside
returns-in-Whole-clause-inside c = omega (arith, c.in-Whole.ensures.inside, length-take 4096 c.args.bytes.now)

pub returns-in-Partial-clause-exact : goal.returns-in-Partial-clause-exact
unfolding chunk_line
returns-in-Partial-clause-exact c =
    let bytes = c.args.bytes.now in
    limited_long chunk_line_limit BadChunk (λ front. chunk_line_at front (line front)) bytes c.if-bytes-lt-LIMIT.false
    ∙ ap (at_limit BadChunk (drop chunk_line_limit bytes)) c.in-Partial.ensures.exact

pub returns-in-Bad-clause-exact : goal.returns-in-Bad-clause-exact
unfolding chunk_line
returns-in-Bad-clause-exact c =
    let bytes = c.args.bytes.now in
    limited_long chunk_line_limit BadChunk (λ front. chunk_line_at front (line front)) bytes c.if-bytes-lt-LIMIT.false
    ∙ ap (at_limit BadChunk (drop chunk_line_limit bytes)) c.in-Bad.ensures.exact
