use Rattle.std.proofs.Common.{◌≡◌, ◌≢◌, ◌<◌, length, get_or, sym, ◌∙◌, arith}
use Rattle.std.proofs.lemmas.Grind.{common_steps}
use Rattle.trace_format.proofs.Decimals.{tells_digits, decimal_is}
use Rattle.trace_format.proofs.numbers.is_decimal.Goals.{else-text-gt1-via-then-text-gt1+else-text-eq48, else-text-gt1-via-else-text-gt1}
use Rattle.trace_format.proofs.numbers.is_decimal.Goals as goal

pub returns : goal.returns
returns c =
    let some : 0 < length c.args.text.now = grind (arith, common_steps, c.is_empty.ensures) in
    let first : 1 < length c.args.text.now → get_or c.args.text.now 0 0 ≢ 48 = elim c.else-text-gt1.branch [
      | else-text-gt1-via-then-text-gt1+else-text-eq48 w ↦ λ _. w.if-text-eq48.false
      | else-text-gt1-via-else-text-gt1 w ↦ λ many. absurd (omega (arith, w.if-text-gt1.false))
    ] in
    tells_digits c.args.text.now c.all_digits.result c.all_digits.ensures.0 c.all_digits.ensures.1 ∙ sym (decimal_is c.args.text.now some first)
