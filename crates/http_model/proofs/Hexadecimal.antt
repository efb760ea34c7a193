-- The size of a chunk is written as std writes hexadecimal numbers.
use Rattle.std.proofs.Common.{ap, refl, arith, eqb-true}
use Rattle.std.proofs.lemmas.Bool.{eqb-false}
use Rattle.std.proofs.lemmas.Nat.{div_below}
use Rattle.std.specs.Fmt.{digits, digits_onto, digit_glyph}
use Rattle.std.specs.Prelude.{ℕ, zero, suc, ◌≡◌, ◌/◌, ◌%◌, ◌^◌, ◌<◌, Bool, true, false, List, [], ◌∷◌, ◌==◌, if◌then◌else◌}
use Rattle.http_model.specs.Wire.{hex, hex_onto, hex_digit}

-- both have places enough for n
same_digits : (k m n : ℕ) (acc : List ℕ) → n < 16 ^ suc k → n < m → hex_onto m n acc ≡ digits_onto (suc k) 16 false n acc
same_digits k zero n acc h g = absurd (none n g)
  where
    none : (n : ℕ) → n < 0 → ⊥
    none n g = omega (arith, g)
same_digits zero (suc m) n acc h g = by (n / 16 == 0) refl
  where
    small : n < 16
    small = omega (arith, h)

    alone : n ≡ n % 16
    alone = omega (arith, small)

    none : n / 16 ≡ 0
    none = omega (arith, small)

    by : (b : Bool) → (n / 16 == 0) ≡ b
        → (elim b [ true ↦ hex_digit n ∷ acc | false ↦ hex_onto m (n / 16) (hex_digit (n % 16) ∷ acc) ])
        ≡ (if b then digit_glyph false (n % 16) ∷ acc else digit_glyph false (n % 16) ∷ acc)
    by true e = ap (λ d. hex_digit d ∷ acc) alone
    by false e = absurd (eqb-false (n / 16) 0 e none)
same_digits (suc k) (suc m) n acc h g = by (n / 16 == 0) refl (same_digits k m (n / 16) (hex_digit (n % 16) ∷ acc))
  where
    less : (n / 16 ≡ 0 → ⊥) → n / 16 < m
    less e = omega (arith, g, e)

    alone : n / 16 ≡ 0 → n ≡ n % 16
    alone e = omega (arith, e)

    shorter : n / 16 < 16 ^ suc k
    shorter = div_below n 16 (16 ^ suc k) (omega arith) (omega (arith, h))

    by : (b : Bool) → (n / 16 == 0) ≡ b
        → (n / 16 < 16 ^ suc k → n / 16 < m → hex_onto m (n / 16) (hex_digit (n % 16) ∷ acc) ≡ digits_onto (suc k) 16 false (n / 16) (hex_digit (n % 16) ∷ acc))
        → (elim b [ true ↦ hex_digit n ∷ acc | false ↦ hex_onto m (n / 16) (hex_digit (n % 16) ∷ acc) ])
        ≡ (if b then digit_glyph false (n % 16) ∷ acc else digits_onto (suc k) 16 false (n / 16) (digit_glyph false (n % 16) ∷ acc))
    by true e i = ap (λ d. hex_digit d ∷ acc) (alone (eqb-true (n / 16) 0 e))
    by false e i = i shorter (less (eqb-false (n / 16) 0 e))

pub hex_is_digits : (n : ℕ) → n < 2 ^ 64 → hex n ≡ digits 16 false n
unfolding hex digits
hex_is_digits n h = same_digits 63 (suc n) n [] (omega (arith, h)) (omega arith)
