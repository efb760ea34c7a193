use Rattle.std.proofs.Common.{◌≡◌, drop}
use Rattle.http_model.specs.Bytes.{trim_start}
use Rattle.h1_read.proofs.text.trim_start.Given as goal

abbrev pub invariant-loop-i : goal.invariant-loop-i
invariant-loop-i l = trim_start l.text ≡ trim_start (drop l.i l.text)
