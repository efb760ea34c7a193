use Rattle.std.proofs.Common.{arith}
use Rattle.std.proofs.lemmas.Grind.{common_steps}
use Rattle.px_edge.proofs.Moved.{appends_taken}
use Rattle.px_edge.proofs.sending.send_all.Goals as goal

pub loop-done-preserved : goal.loop-done-preserved
loop-done-preserved g c = record {
  written = appends_taken _ _ _ c.loop-done.done c.in-Ok.count c.args.piece.now c.loop-done.invariant.written (rw c.split_at.ensures.back at c.in-Ok.ensures.bytes);
  within = grind (arith, common_steps, c.in-Ok.ensures.bound);
  later = grind (arith, common_steps, c.in-Ok.ensures.cause);
  shut = grind (arith, c.loop-done.invariant.shut, c.in-Ok.ensures.shut);
  aborted = grind (arith, c.loop-done.invariant.aborted, c.in-Ok.ensures.aborted);
}
