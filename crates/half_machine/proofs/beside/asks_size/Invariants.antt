-- The sum over the asks so far, as far as it is counted.
use Rattle.std.proofs.Common.{◌≡◌, take, min}
use Rattle.std.specs.Prelude.{sum_by}
use Rattle.half_machine.specs.Beside.{ask_size}
use Rattle.half_machine.proofs.beside.asks_size.Given as goal

abbrev pub invariant-loop-i : goal.invariant-loop-i
invariant-loop-i l = l.total ≡ min (sum_by ask_size (take l.i l.asks.items)) 18_446_744_073_709_551_615
