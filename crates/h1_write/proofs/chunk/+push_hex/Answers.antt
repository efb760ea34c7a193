use Rattle.std.proofs.Common.{append_assoc}
use Rattle.h1_write.proofs.Digits.{more_digits}
use Rattle.h1_write.proofs.chunk.+push_hex.Goals as goal

pub returns : goal.returns
returns t c =
    rw (c.in_ok-push-2.ensures.items, c.in_ok-push_hex.ensures, c.hex_digit-2.ensures, more_digits c.args.n c.if-n-lt16.false, append_assoc)
