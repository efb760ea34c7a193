use Rattle.std.proofs.Common.{◌∙◌}
use Rattle.http_model.specs.Reading.{BadChunk}
use Rattle.http_model.specs.Lines.{line, chunk_line_at, chunk_line_limit, chunk_line}
use Rattle.h1_read.proofs.ByLimit.{limited_short}
use Rattle.h1_read.proofs.chunk_line.short_line.Goals as goal

pub returns-clause-exact : goal.returns-clause-exact
unfolding chunk_line
returns-clause-exact c =
    limited_short chunk_line_limit BadChunk (λ front. chunk_line_at front (line front)) c.args.bytes.now c.requires ∙ c.line_of.ensures.exact
