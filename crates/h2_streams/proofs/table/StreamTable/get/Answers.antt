-- Each stream of a table is in range.
use Rattle.std.proofs.Common.{All, sym, subst}
use Rattle.h2_streams.specs.Tables.{HasCreditInRange}
use Rattle.h2_streams.proofs.Places.{found-range}
use Rattle.h2_streams.proofs.table.StreamTable.get.Goals as goal

pub returns-clause-range : goal.returns-clause-range
returns-clause-range c = rw c.stream_in.ensures
    (found-range c.args.id c.as_slice.result.now (subst (All HasCreditInRange) (sym c.as_slice.ensures.value) c.self.invariant.range))
