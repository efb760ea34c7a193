use Rattle.hpack_core.specs.Writing.{is_name}
use Rattle.hpack_core.proofs.StaticLemmas.{Searching}
use Rattle.hpack_core.proofs.static_table.number_of_name.Given as goal

abbrev pub invariant-loop-index : goal.invariant-loop-index
invariant-loop-index l = Searching (is_name l.name) l.index
