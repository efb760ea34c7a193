use Rattle.std.proofs.Common.{◌≡◌}
use Rattle.hpack_core.specs.Tables.{total, cut}
use Rattle.hpack_core.proofs.table.evict.Given as goal

abbrev pub invariant-loop-size : goal.invariant-loop-size
invariant-loop-size l = record {
  sum : l.size ≡ total l.entries.items;
  whole : cut l.limit l.entries.items ≡ cut l.limit l.fn.entries.items;
}

abbrev pub decreases-loop-size : goal.decreases-loop-size
decreases-loop-size l = l.size
