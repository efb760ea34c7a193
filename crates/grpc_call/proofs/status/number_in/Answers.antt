use Rattle.std.proofs.Common.{◌≡◌, sym, subst, ℕ, List, true, None}
use Rattle.std.specs.Char.{is_ascii_digit}
use Rattle.std.specs.List.{list_all}
use Rattle.grpc_call.proofs.Numbers.{digits_are_text, unparsed}
use Rattle.grpc_call.specs.Blocks.{number_in}
use Rattle.grpc_call.proofs.status.number_in.Goals as goal

pub returns-in_default : goal.returns-in_default
returns-in_default c = absurd (c.in_default.ensures.cases.0 (digits_are_text c.args.value.now (sym c.if-not-is_decimal.ensures)))

pub returns-in-Err : goal.returns-in-Err
returns-in-Err c =
    let same : c.in-Ok.digits.now ≡ c.args.value.now = c.in-Ok.ensures.cases.0 in
    let failed = unparsed c.in-Ok.digits.now c.in-Err.field-0 (subst (λ (b : List ℕ). list_all is_ascii_digit b ≡ true) (sym same) (sym c.if-not-is_decimal.ensures))
    (rw c.in-Err.is at c.parse.ensures.value.0) in
    sym (subst (λ (b : List ℕ). number_in b ≡ None) same failed)
