-- Decimal numbers, as `parse` reads them.
use Rattle.std.proofs.Common.{◌≡◌, ℕ, ◌<◌, ◌≤◌, ◌^◌, ◌&&◌, nat_lt, Bool, true, false, List, [], ◌∷◌, length, Some, None, Err, if◌then◌else◌, refl, sym, ◌∙◌, ap, arith, ◌⊎◌, inl, inr}
use Rattle.std.specs.Char.{is_ascii_digit}
use Rattle.std.specs.List.{list_all}
use Rattle.std.specs.Str.{all_ascii_digits, IsUtf8}
use Rattle.std.specs.Str.Parse.{digits_value, ParsesUnsigned}
use Rattle.std.proofs.lemmas.Str.{IsUtf8-from_ascii}
use Rattle.std.proofs.lemmas.Fmt.{IsAscii-from_digits}
use Rattle.std.proofs.lemmas.Str.Parse.{IsNumeralModel, numerals_by_value, tells_all_ascii_digits, parse_digits}
use Rattle.std.proofs.lemmas.Bool.{cases_lt}
use Rattle.std.proofs.lemmas.Bool.Decides.{nat_tests}
use Rattle.grpc_call.specs.Blocks.{number_in, is_some_byte}

own : IsNumeralModel (λ ds. all_ascii_digits ds ≡ true) (digits_value 10)
own = numerals_by_value _ tells_all_ascii_digits

same_test : (text : List ℕ) → list_all is_ascii_digit text ≡ all_ascii_digits text
same_test [] = refl
same_test (c ∷ cs) = ap (λ b. is_ascii_digit c && b) (same_test cs)

digits : (text : List ℕ) → list_all is_ascii_digit text ≡ true → all_ascii_digits text ≡ true
digits text h = sym (same_test text) ∙ h

pub digits_are_text : (text : List ℕ) → list_all is_ascii_digit text ≡ true → IsUtf8 text
digits_are_text text h = IsUtf8-from_ascii text (IsAscii-from_digits text (own.to text (digits text h)))

-- by its three tests
by_tests : (value : List ℕ) (x y z : Bool) → is_some_byte value ≡ x → list_all is_ascii_digit value ≡ y → nat_lt (digits_value 10 value) (2 ^ 32) ≡ z
    → number_in value ≡ (if x && y && z then Some (digits_value 10 value) else None)
unfolding number_in
by_tests value x y z e f g = λ i. if e i && f i && g i then Some (digits_value 10 value) else None

pub unparsed : {E : Type 0} (text : List ℕ) (e : E) → list_all is_ascii_digit text ≡ true → ParsesUnsigned 32 10 text (Err e) → number_in text ≡ None
unparsed {E = E} text e h parses = by text (parse_digits own {E = E} 32 text (Err e) parses (digits text h)) h (cases_lt (digits_value 10 text) (2 ^ 32))
  where
    by : (text : List ℕ) → ((0 < length text) × (digits_value 10 text < 2 ^ 32) → ⊥) → list_all is_ascii_digit text ≡ true → (digits_value 10 text < 2 ^ 32) ⊎ (2 ^ 32 ≤ digits_value 10 text) → number_in text ≡ None
    by [] refused h w = by_tests [] false true _ refl refl refl
    by (c ∷ cs) refused h (inl small) = absurd (refused (omega arith, small))
    by (c ∷ cs) refused h (inr large) = by_tests (c ∷ cs) true true false refl h (grind (arith, nat_tests, large))
