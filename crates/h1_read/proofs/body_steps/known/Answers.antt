use Rattle.std.proofs.Common.{arith, sym}
use Rattle.std.proofs.lemmas.Bool.{eqb-false}
use Rattle.std.specs.Prelude.{◌≤◌, length}
use Rattle.h1_read.proofs.BodyMoves.{known_gives}
use Rattle.h1_read.proofs.body_steps.known.Goals as goal

pub returns-clause-feeds : goal.returns-clause-feeds
returns-clause-feeds c kept =
    let some = eqb-false (length c.args.bytes.now) 0 (sym c.if-is_empty.ensures) in
    let left : c.min-len.result ≤ c.args.left = omega (arith, c.min-len.ensures) in
    let came : c.min-len.result ≤ length c.args.bytes.now = omega (arith, c.min-len.ensures) in
    (omega (arith, c.min-len.ensures, some, c.if-left-eq0.false), omega arith, came, known_gives c.min-len.result c.args.left c.args.bytes.now left came)
