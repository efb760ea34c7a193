-- A number of digits that is cut off at a thousand, which no status reaches.
use Rattle.std.proofs.Common.{◌≡◌, ◌≢◌, ℕ, suc, ◌+◌, ◌-◌, ◌*◌, ◌<◌, ◌≤◌, ◌&&◌, ◌==◌, ◌⊎◌, inl, inr, nat_lt, min, Bool, true, false, List, [], ◌∷◌, ◌++◌, length, get_or, take, fold, refl, ap, sym, ◌∙◌, arith, add-one, subst}
use Rattle.std.specs.List.{list_all}
use Rattle.std.proofs.Math.Seq.{take-suc}
use Rattle.std.proofs.lemmas.Bool.{ne_eqb}
use Rattle.std.proofs.lemmas.Bool.Decides.{nat_tests}
use Rattle.http_model.specs.Bytes.{decimal_value}
use Rattle.http_model.specs.Wire.{reason, reason_in, reasons}

abbrev add_digit : ℕ → ℕ → ℕ
add_digit n d = 10 * n + (d - 48)

fold_more : (n : ℕ) (digits : List ℕ) (d : ℕ) → fold add_digit n (digits ++ d ∷ []) ≡ add_digit (fold add_digit n digits) d
fold_more n [] d = refl
fold_more n (x ∷ digits) d = fold_more (add_digit n x) digits d

-- one digit more
value_more : (digits : List ℕ) (i : ℕ) → i < length digits → decimal_value (take (suc i) digits) ≡ add_digit (decimal_value (take i digits)) (get_or digits i 0)
value_more digits i h = ap decimal_value (take-suc digits i 0 h) ∙ fold_more 0 (take i digits) (get_or digits i 0)

-- the number of the digits so far, or a thousand
pub capped_more : (digits : List ℕ) (i n : ℕ) → i < length digits → n ≡ min (decimal_value (take i digits)) 1000
    → min (n * 10 + (get_or digits i 0 - 48)) 1000 ≡ min (decimal_value (take (i + 1) digits)) 1000
capped_more digits i n h e =
    let more : decimal_value (take (i + 1) digits) ≡ 10 * decimal_value (take i digits) + (get_or digits i 0 - 48) = rw add-one (value_more digits i h) in
    omega arith

-- no status of a phrase is a thousand or more
none_in : (n : ℕ) (rs : List (ℕ × List ℕ)) → 1000 ≤ n → list_all (λ r. nat_lt r.0 1000) rs ≡ true → reason_in n rs ≡ []
none_in n [] large h = refl
none_in n (r ∷ rs) large h =
    let parts : (nat_lt r.0 1000 ≡ true) × (list_all (λ s. nat_lt s.0 1000) rs ≡ true) = both (nat_lt r.0 1000) (list_all (λ s. nat_lt s.0 1000) rs) h in
    let below : r.0 < 1000 = grind (arith, nat_tests, parts.0) in
    rw (reason_in, ne_eqb r.0 n (λ (e : r.0 ≡ n). omega arith)) (none_in n rs large parts.1)
  where
    both : (a b : Bool) → (a && b) ≡ true → (a ≡ true) × (b ≡ true)
    both true b h = (refl, h)
    both false b h = (cc)

large_none : (n : ℕ) → 1000 ≤ n → reason n ≡ []
large_none n large = none_in n reasons large refl

pub same_reason : (c n : ℕ) → c ≡ min n 1000 → reason c ≡ reason n
same_reason c n e = elim (small_or_large n) [
  | inl small ↦ let same : c ≡ n = omega arith in ap reason same
  | inr large ↦ let top : 1000 ≤ c = omega arith in large_none c top ∙ sym (large_none n large)
]
  where
    small_or_large : (n : ℕ) → (n < 1000) ⊎ (1000 ≤ n)
    small_or_large n = grind arith
