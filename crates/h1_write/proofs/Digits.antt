-- The hexadecimal digits of a number, from the last.
use Rattle.std.proofs.Common.{◌≡◌, ℕ, zero, suc, ◌+◌, ◌/◌, ◌%◌, ◌<◌, ◌≤◌, ◌==◌, ◌⊎◌, inl, inr, Bool, true, false, List, [], ◌∷◌, ◌++◌, refl, ap, sym, ◌∙◌, arith, append_assoc, eq-eqb}
use Rattle.std.proofs.lemmas.Bool.{ne_eqb, cases_lt}
use Rattle.http_model.specs.Wire.{hex, hex_onto, hex_digit}

onto-last : (k n : ℕ) (digits : List ℕ) → n < 16 → hex_onto (suc k) n digits ≡ hex_digit n ∷ digits
onto-last k n digits small = rw (hex_onto, eq-eqb (n / 16) 0 (omega arith)) refl

onto-more : (k n : ℕ) (digits : List ℕ) → 16 ≤ n → hex_onto (suc k) n digits ≡ hex_onto k (n / 16) (hex_digit (n % 16) ∷ digits)
onto-more k n digits large = rw (hex_onto, ne_eqb (n / 16) 0 (λ (e : n / 16 ≡ 0). omega arith)) refl

-- digits that were there stay behind
onto-append : (k n : ℕ) (digits more : List ℕ) → n < k → hex_onto k n (digits ++ more) ≡ hex_onto k n digits ++ more
onto-append zero n digits more h = absurd (omega arith)
onto-append (suc k) n digits more h = elim (cases_lt n 16) [
  | inl small ↦ onto-last k n (digits ++ more) small ∙ sym (ap (λ (l : List ℕ). l ++ more) (onto-last k n digits small))
  | inr large ↦ onto-more k n (digits ++ more) large ∙ onto-append k (n / 16) (hex_digit (n % 16) ∷ digits) more (omega arith) ∙ sym (ap (λ (l : List ℕ). l ++ more) (onto-more k n digits large))
]

-- how many steps there may be doesn't matter, if they are enough
onto-same : (k j n : ℕ) (digits : List ℕ) → n < k → n < j → hex_onto k n digits ≡ hex_onto j n digits
onto-same zero j n digits a b = absurd (omega arith)
onto-same (suc k) zero n digits a b = absurd (omega arith)
onto-same (suc k) (suc j) n digits a b = elim (cases_lt n 16) [
  | inl small ↦ onto-last k n digits small ∙ sym (onto-last j n digits small)
  | inr large ↦ onto-more k n digits large ∙ onto-same k j (n / 16) (hex_digit (n % 16) ∷ digits) (omega arith) (omega arith) ∙ sym (onto-more j n digits large)
]

pub one_digit : (n : ℕ) → n < 16 → hex n ≡ hex_digit n ∷ []
unfolding hex
one_digit n small = onto-last n n [] small

pub more_digits : (n : ℕ) → 16 ≤ n → hex n ≡ hex (n / 16) ++ hex_digit (n % 16) ∷ []
unfolding hex
more_digits n large =
    onto-more n n [] large
    ∙ onto-append n (n / 16) [] (hex_digit (n % 16) ∷ []) (omega arith)
    ∙ ap (λ (l : List ℕ). l ++ hex_digit (n % 16) ∷ []) (onto-same n (suc (n / 16)) (n / 16) [] (omega arith) (omega arith))
