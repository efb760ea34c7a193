use Rattle.std.proofs.Common.{◌-◌, length}
use Rattle.hpack_core.proofs.BlockLemmas.{Reads}
use Rattle.hpack_core.proofs.block.fields.Given as goal

abbrev pub invariant-loop-at : goal.invariant-loop-at
invariant-loop-at l = Reads l.fn.table l.bytes l.list l.table l.first l.room l.at

abbrev pub decreases-loop-at : goal.decreases-loop-at
decreases-loop-at l = length l.bytes - l.at
