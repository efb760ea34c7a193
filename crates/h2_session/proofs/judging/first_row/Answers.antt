use Rattle.std.proofs.Common.{sym, false}
use Rattle.h2_session.proofs.Rows.{row-there, row-passed}
use Rattle.h2_session.proofs.judging.first_row.Goals as goal

pub returns-then-holds : goal.returns-then-holds
returns-then-holds c = sym (row-there c.args.rows.now c.loop-holds.holds-index (false, 0) c.loop-holds.invariant c.loop-holds-test.true c.if-holds.true)

pub loop-holds-preserved : goal.loop-holds-preserved
loop-holds-preserved c = row-passed c.args.rows.now c.loop-holds.holds-index (false, 0) c.loop-holds.invariant c.loop-holds-test.true c.if-holds.false
