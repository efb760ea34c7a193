use Rattle.std.proofs.Common.{◌≡◌, drop, bytes_eq}
use Rattle.http_model.specs.Bytes.{lower}
use Rattle.h1_read.proofs.text.is_lower.Given as goal

abbrev pub invariant-loop-i : goal.invariant-loop-i
invariant-loop-i l = bytes_eq (lower l.text) l.lower_text ≡ bytes_eq (lower (drop l.i l.text)) (drop l.i l.lower_text)
