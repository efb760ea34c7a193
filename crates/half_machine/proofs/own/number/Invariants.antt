use Rattle.std.proofs.Common.{◌≡◌, take}
use Rattle.std.specs.Prelude.{min}
use Rattle.http_model.specs.Bytes.{decimal_value}
use Rattle.half_machine.proofs.own.number.Given as goal

-- the number of the digits so far
abbrev pub invariant-digits : goal.invariant-digits
invariant-digits l = l.n ≡ min (decimal_value (take l.i l.value)) 18_446_744_073_709_551_615
