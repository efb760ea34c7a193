use Rattle.px_edge.proofs.Moved.{consumes_more}
use Rattle.ext_setup.proofs.input.read_whole.Goals as goal

pub returns-then-is_err-clause-some : goal.returns-then-is_err-clause-some
returns-then-is_err-clause-some g c = (_, consumes_more _ _ _ _ _ c.pieces.invariant.consumed c.in-Ok.ensures.bytes.0)
