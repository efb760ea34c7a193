use Rattle.std.proofs.Common.{[], ◌∷◌, ◌++◌}
use Rattle.px_edge.proofs.Moved.{consumes_more}
use Rattle.ext_top.proofs.streams.read_line.Goals as goal

pub returns-then-is_err-clause-some : goal.returns-then-is_err-clause-some
returns-then-is_err-clause-some g c =
    (c.bytes.line.items ++ c.in-Ok-Some.byte ∷ [], consumes_more _ _ _ c.bytes.line.items (c.in-Ok-Some.byte ∷ []) c.bytes.invariant.consumed (rw c.in-Ok-Some.field-0-is at c.in-Ok-Some.ensures.byte))
