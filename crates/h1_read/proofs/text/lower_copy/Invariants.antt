use Rattle.std.proofs.Common.{◌≡◌, take}
use Rattle.http_model.specs.Bytes.{lower}
use Rattle.h1_read.proofs.text.lower_copy.Given as goal

abbrev pub invariant-loop-b : goal.invariant-loop-b
invariant-loop-b l = l.out.items ≡ lower (take l.b-index l.text)
