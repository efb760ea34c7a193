use Rattle.std.proofs.Common.{sym, arith}
use Rattle.h1_read.proofs.LengthDigits.{value_read}
use Rattle.h1_read.proofs.length.length_value.Goals as goal

pub returns-then-number-lt-TOO_LONG : goal.returns-then-number-lt-TOO_LONG
returns-then-number-lt-TOO_LONG c =
    sym (value_read c.args.value.now c.loop-digit.number c.loop-digit.digit-index (omega arith) (omega arith) c.loop-digit.invariant.digits c.loop-digit.invariant.number (omega arith))
