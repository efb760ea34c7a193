use Rattle.std.proofs.Common.{ap, sym, ◌∙◌}
use Rattle.std.specs.Prelude.{drop}
use Rattle.http_model.specs.Reading.{Whole}
use Rattle.h1_read.proofs.ChunkLines.{found, none_yet, never_any}
use Rattle.h1_read.proofs.chunk_line.line_of.Goals as goal

pub returns-in-Ok-Complete-clause-exact : goal.returns-in-Ok-Complete-clause-exact
returns-in-Ok-Complete-clause-exact c =
    let bytes = c.args.bytes.now in
    let got = rw c.in-Ok-Complete.field-0-is at c.in-Ok-Complete.ensures.complete in
    found bytes got.0 (drop c.in-Ok-Complete.used bytes) got.1.reads ∙ ap (λ n. Whole n (drop c.in-Ok-Complete.used bytes)) (sym got.1.size_is)

pub returns-in-Ok-Partial-clause-exact : goal.returns-in-Ok-Partial-clause-exact
returns-in-Ok-Partial-clause-exact c =
    none_yet c.args.bytes.now (rw c.in-Ok-Partial.field-0-is at c.in-Ok-Partial.ensures.partial) (rw c.in-Ok-Partial.field-0-is at c.in-Ok-Partial.ensures.unfinished)

pub returns-in-Err-clause-exact : goal.returns-in-Err-clause-exact
returns-in-Err-clause-exact c = never_any c.args.bytes.now c.in-Err.ensures.invalid
