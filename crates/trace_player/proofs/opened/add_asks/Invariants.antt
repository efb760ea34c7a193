use Rattle.std.proofs.Common.{◌≡◌, ◌++◌}
use Rattle.std.specs.Vec.Iter.{into_iter_items}
use Rattle.trace_player.proofs.opened.add_asks.Given as goal

-- those that are left come behind those that were added
abbrev pub invariant-asks : goal.invariant-asks
invariant-asks l = l.asks.items ++ into_iter_items l.ask-iterator ≡ l.fn.asks.items ++ l.fn.more.items
