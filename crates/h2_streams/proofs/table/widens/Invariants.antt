-- None so far.
use Rattle.std.proofs.Common.{◌≡◌, false, take, pos, ◌+ℤ◌}
use Rattle.std.specs.List.{list_any}
use Rattle.h2_model.specs.Windows.{is_too_wide}
use Rattle.h2_streams.proofs.table.widens.Given as goal

abbrev pub invariant-loop-i : goal.invariant-loop-i
invariant-loop-i l = list_any (λ t. is_too_wide (pos l.fn.initial +ℤ t.credit)) (take l.i l.fn.streams) ≡ false
