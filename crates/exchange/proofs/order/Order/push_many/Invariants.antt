use Rattle.std.proofs.Common.{◌≡◌, ◌++◌}
use Rattle.exchange.specs.Order.{so_many}
use Rattle.exchange.proofs.order.Order.push_many.Given as goal

abbrev pub invariant-asks : goal.invariant-asks
invariant-asks l = l.self ≡ l.initial.self ++ so_many l.counter l.direction
