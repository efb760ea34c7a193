use Rattle.std.proofs.Common.{arith}
use Rattle.std.specs.Prelude.{◌≡◌}
use Rattle.h1_read.specs.Remaining as rest
use Rattle.h1_read.proofs.BodyMoves.{end_gives}
use Rattle.h1_read.proofs.body_steps.chunk.Goals as goal

pub returns-in-Whole-clause-steps : goal.returns-in-Whole-clause-steps
returns-in-Whole-clause-steps c =
    let zero : c.args.left ≡ 0 = omega (arith, c.if-left-gt0.false) in
    rw zero (c.next_line.ensures.steps (rest.Chunk 0) (end_gives c.args.bytes.now c.in-Whole.ensures.exact))
