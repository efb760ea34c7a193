use Rattle.hpack_core.specs.Writing.{is_field}
use Rattle.hpack_core.proofs.StaticLemmas.{Searching}
use Rattle.hpack_core.proofs.static_table.number_of_field.Given as goal

abbrev pub invariant-loop-index : goal.invariant-loop-index
invariant-loop-index l = Searching (is_field l.field) l.index
