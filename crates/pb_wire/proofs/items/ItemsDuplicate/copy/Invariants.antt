use Rattle.std.proofs.Common.{◌≡◌, take}
use Rattle.pb_wire.proofs.items.ItemsDuplicate.copy.Given as goal

-- as many copies as elements were passed
abbrev pub invariant-loop-item : goal.invariant-loop-item
invariant-loop-item g l = l.items.items ≡ take l.item-index l.item-items
