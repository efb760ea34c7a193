use Rattle.std.proofs.Common.{arith, ◌<◌, length}
use Rattle.http_model.specs.Lines.{section}
use Rattle.http_model.specs.Reading.{BadChunk}
use Rattle.http_model.specs.Heads.{head_limit, field_limit}
use Rattle.std.specs.Prelude.{take}
use Rattle.h1_read.proofs.ChunkLines.{line_short}
use Rattle.h1_read.proofs.WholeBehind.{open_within}
use Rattle.h1_read.proofs.body.BodyReader.held.Goals as goal

pub returns-in-Line-clause-bound : goal.returns-in-Line-clause-bound
returns-in-Line-clause-bound c =
    let kept = c.self.inside.kept.items in
    let short : length kept < 4096 = line_short kept (rw c.in-Line.is at c.self.invariant).0 in
    omega (arith, c.len.ensures, short)

pub returns-in-Trailers-clause-bound : goal.returns-in-Trailers-clause-bound
returns-in-Trailers-clause-bound c =
    let kept = c.self.inside.kept.items in
    let short : length kept < 32768 = (open_within (section BadChunk field_limit (take head_limit kept)) kept (rw c.in-Trailers.is at c.self.invariant).0).1 in
    omega (arith, c.len-in-Trailers.ensures, short)
