use Rattle.std.proofs.Common.{◌≡◌, drop, bytes_eq}
use Rattle.http_header.specs.Token.{lowercase}
use Rattle.header_mutation.proofs.names.same_lower.Given as goal

abbrev pub invariant-loop-i : goal.invariant-loop-i
invariant-loop-i l = bytes_eq (lowercase l.name) l.text ≡ bytes_eq (lowercase (drop l.i l.name)) (drop l.i l.text)
