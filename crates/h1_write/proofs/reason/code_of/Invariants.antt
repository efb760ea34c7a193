use Rattle.std.proofs.Common.{◌≡◌, min, take}
use Rattle.http_model.specs.Bytes.{decimal_value}
use Rattle.h1_write.proofs.reason.code_of.Given as goal

-- the number of the digits so far, or a thousand
abbrev pub invariant-loop-digit : goal.invariant-loop-digit
invariant-loop-digit l = l.code ≡ min (decimal_value (take l.digit-index l.status)) 1000
