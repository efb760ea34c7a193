use Rattle.std.proofs.Common.{sym}
use Rattle.std.proofs.lemmas.Bool.{eqb-false}
use Rattle.std.specs.Prelude.{length}
use Rattle.h1_read.specs.Remaining as rest
use Rattle.h1_read.proofs.BodyMoves.{lf_gives}
use Rattle.h1_read.proofs.body_steps.lf.Goals as goal

pub returns-clause-steps : goal.returns-clause-steps
returns-clause-steps c =
    c.next_line.ensures.steps rest.Lf
    (lf_gives c.args.bytes.now (eqb-false (length c.args.bytes.now) 0 (sym c.if-is_empty.ensures)) c.if-bytes-ne10.false)
