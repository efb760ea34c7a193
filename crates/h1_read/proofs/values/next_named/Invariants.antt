use Rattle.std.proofs.Common.{◌≡◌, drop}
use Rattle.http_model.specs.Bytes.{values_of}
use Rattle.h1_read.proofs.values.next_named.Given as goal

abbrev pub invariant-loop-i : goal.invariant-loop-i
invariant-loop-i l = values_of l.name l.fields ≡ values_of l.name (drop l.i l.fields)
