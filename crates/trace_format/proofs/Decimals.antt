-- Decimal numbers, as `parse` reads them.
use Rattle.std.proofs.Common.{◌≡◌, ◌≢◌, ℕ, ◌+◌, ◌<◌, ◌≤◌, ◌^◌, ◌&&◌, ◌==◌, nat_le, not, Bool, true, false, List, [], ◌∷◌, length, get_or, Option, Some, None, Result, Ok, Err, refl, sym, ◌∙◌, ap, arith, subst}
use Rattle.std.specs.Char.{is_ascii_digit}
use Rattle.std.specs.List.{AllPass, AllByRecursion}
use Rattle.std.specs.Str.{all_ascii_digits, IsUtf8}
use Rattle.std.proofs.lemmas.Str.{IsUtf8-from_ascii}
use Rattle.std.proofs.lemmas.Fmt.{IsAscii-from_digits}
use Rattle.std.specs.Str.Parse.{digits_value, ParsesUnsigned}
use Rattle.std.specs.Result.{OkIff}
use Rattle.std.proofs.lemmas.List.Elements.{recursion_from_All, All-from_recursion}
use Rattle.std.proofs.lemmas.Str.Parse.{IsNumeralModel, numerals_by_value, tells_all_ascii_digits, parse_digits}
use Rattle.std.proofs.lemmas.Bool.{ne_eqb}
use Rattle.std.proofs.lemmas.Bool.Decides.{nat_tests}
use Rattle.std.proofs.Math.Bool.{and-true, and-false}
use Rattle.trace_format.specs.Lines.{is_decimal, number_of}

pub own : IsNumeralModel (λ ds. all_ascii_digits ds ≡ true) (digits_value 10)
own = numerals_by_value _ tells_all_ascii_digits

-- the two tests of a text of digits
digits_from : (text : List ℕ) → AllByRecursion (λ b. is_ascii_digit b ≡ true) text → all_ascii_digits text ≡ true
digits_from [] h = refl
digits_from (c ∷ cs) h = rw (h.0, digits_from cs h.1) refl

pub both : (a b : Bool) → (a && b) ≡ true → (a ≡ true) × (b ≡ true)
both true b h = (refl, h)
both false b h = (cc)

from_digits : (text : List ℕ) → all_ascii_digits text ≡ true → AllByRecursion (λ b. is_ascii_digit b ≡ true) text
from_digits [] h = tt
from_digits (c ∷ cs) h = let p = both (is_ascii_digit c) (all_ascii_digits cs) h in (p.0, from_digits cs p.1)

same_bools : (a b : Bool) → (a ≡ true → b ≡ true) → (b ≡ true → a ≡ true) → a ≡ b
same_bools true b f g = sym (f refl)
same_bools false true f g = g refl
same_bools false false f g = refl

-- a test of all bytes is that of a text of digits
pub tells_digits : (text : List ℕ) (test : Bool) → (test ≡ true → AllPass is_ascii_digit text) → (AllPass is_ascii_digit text → test ≡ true) → test ≡ all_ascii_digits text
tells_digits text test f g = same_bools test (all_ascii_digits text)
    (λ (t : test ≡ true). digits_from text (recursion_from_All (λ b. is_ascii_digit b ≡ true) text (f t)))
    (λ (d : all_ascii_digits text ≡ true). g (All-from_recursion (λ b. is_ascii_digit b ≡ true) text (from_digits text d)))

pub decimal_digits : (text : List ℕ) → is_decimal text ≡ true → all_ascii_digits text ≡ true
decimal_digits [] h = (cc)
decimal_digits (c ∷ []) h = rw h refl
decimal_digits (c ∷ d ∷ ds) h = (both (not (c == 48)) (all_ascii_digits (c ∷ d ∷ ds)) h).1

pub decimal_some : (text : List ℕ) → is_decimal text ≡ true → 0 < length text
decimal_some [] h = absurd (cc)
decimal_some (c ∷ cs) h = omega arith

-- a test of the first digit, and of all
pub decimal_is : (text : List ℕ) → 0 < length text → (1 < length text → get_or text 0 0 ≢ 48) → is_decimal text ≡ all_ascii_digits text
decimal_is [] some first = absurd (omega arith)
decimal_is (c ∷ []) some first = sym (and-true (is_ascii_digit c))
decimal_is (c ∷ d ∷ ds) some first = rw (ne_eqb c 48 (first (omega arith))) refl

pub too_large : (most : ℕ) (text : List ℕ) → most < 2 ^ 64 → (digits_value 10 text < 2 ^ 64 → ⊥) → number_of most text ≡ None
unfolding number_of
too_large most text fits over =
    let above : most < digits_value 10 text = omega arith in
    let no : nat_le (digits_value 10 text) most ≡ false = grind (arith, nat_tests) in
    rw (no, and-false (is_decimal text)) refl

-- digits are text
pub digits_are_text : (text : List ℕ) → is_decimal text ≡ true → IsUtf8 text
digits_are_text text h = IsUtf8-from_ascii text (IsAscii-from_digits text (own.to text (decimal_digits text h)))

pub unparsed : {E : Type 0} (most : ℕ) (text : List ℕ) (r : Result ℕ E) (e : E) → most < 2 ^ 64 → is_decimal text ≡ true → ParsesUnsigned 64 10 text r → r ≡ Err e → number_of most text ≡ None
unparsed {E = E} most text r e fits h parses failed =
    let refused = subst (λ (x : Result ℕ E). OkIff x ((0 < length text) × (digits_value 10 text < 2 ^ 64)) (digits_value 10 text)) failed (parse_digits own 64 text r parses (decimal_digits text h)) in
    too_large most text fits (λ (small : digits_value 10 text < 2 ^ 64). refused (decimal_some text h, small))
