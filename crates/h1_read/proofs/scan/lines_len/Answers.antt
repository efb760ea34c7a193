use Rattle.std.proofs.Common.{◌<◌, drop, arith}
use Rattle.h1_read.proofs.LineCount.{lines_none}
use Rattle.h1_read.proofs.LineScan.{lines_lf, lines_other, lines_end}
use Rattle.h1_read.proofs.scan.lines_len.Goals.{then-bytes-at-eq10, else-bytes-at-eq10}
use Rattle.h1_read.proofs.scan.lines_len.Goals as goal

pub loop-at-init : goal.loop-at-init
loop-at-init c = (omega arith, omega arith)

pub loop-at-preserved : goal.loop-at-preserved
loop-at-preserved c =
    let bytes = c.args.bytes.now in
    let some : 0 < c.loop-at.left = omega (arith, c.if-left-eq0.false) in
    elim c.if-bytes-at-eq10.branch [
      | then-bytes-at-eq10 w ↦ (omega arith, rw w.left-is (omega (arith, c.loop-at.invariant.1, lines_lf bytes c.loop-at.at c.loop-at.left c.loop-at-test.true some w.if-bytes-at-eq10.true)))
      | else-bytes-at-eq10 w ↦ (omega arith, rw w.left-is (omega (arith, c.loop-at.invariant.1, lines_other bytes c.loop-at.at c.loop-at.left c.loop-at-test.true some w.if-bytes-at-eq10.false)))
    ]

pub returns-then-left-eq0-clause-value : goal.returns-then-left-eq0-clause-value
returns-then-left-eq0-clause-value c =
    let none = lines_none (drop c.loop-at.at c.args.bytes.now) in
    let all = rw c.if-left-eq0.true at c.loop-at.invariant.1 in
    omega (arith, all, none)

pub returns-clause-value : goal.returns-clause-value
returns-clause-value c =
    omega (arith, c.loop-at.invariant.1, lines_end c.args.bytes.now c.loop-at.at c.loop-at.left (omega arith))
