-- How many bytes are used.
use Rattle.std.proofs.Common.{◌≡◌, ℕ, suc, ◌+◌, ◌≤◌, Bool, true, false, List, [], ◌∷◌, ◌++◌, length, take, refl, sym, ◌∙◌, ap, arith, length-take-le}
use Rattle.h2_model.specs.Account.{Account}
use Rattle.h2_model.specs.History.{with_byte, with_bytes}
use Rattle.h2_model.specs.Calls.{is_stopped, used, used_bytes}

pub uses-nothing : (a : Account) → used [] a ≡ 0
unfolding used
uses-nothing a = refl

pub uses-none : (bytes : List ℕ) (a : Account) → is_stopped a ≡ true → used bytes a ≡ 0
unfolding used
uses-none [] a s = refl
uses-none (b ∷ bytes) a s = rw s refl

uses-suc : (b : ℕ) (bytes : List ℕ) (a : Account) → is_stopped a ≡ false → used (b ∷ bytes) a ≡ suc (used bytes (with_byte b a))
unfolding used
uses-suc b bytes a s = rw s refl

pub uses-one : (b : ℕ) (bytes : List ℕ) (a : Account) → is_stopped a ≡ false → used (b ∷ bytes) a ≡ 1 + used bytes (with_byte b a)
uses-one b bytes a s = uses-suc b bytes a s ∙ omega arith

pub uses-within : (bytes : List ℕ) (a : Account) → used bytes a ≤ length bytes
uses-within [] a = omega (arith, uses-nothing a)
uses-within (b ∷ bytes) a = by (is_stopped a) refl (uses-within bytes (with_byte b a))
  where
    by : (s : Bool) → is_stopped a ≡ s → used bytes (with_byte b a) ≤ length bytes → used (b ∷ bytes) a ≤ length (b ∷ bytes)
    by true s h = omega (arith, uses-none (b ∷ bytes) a s)
    by false s h = omega (arith, uses-one b bytes a s, h)

-- where bytes are all used, those behind them are used as by what they leave
pub uses-both : (xs ys : List ℕ) (a : Account) → used xs a ≡ length xs → used (xs ++ ys) a ≡ length xs + used ys (with_bytes xs a)
uses-both [] ys a e = omega arith
uses-both (x ∷ xs) ys a e = by (is_stopped a) refl (uses-both xs ys (with_byte x a))
  where
    by : (s : Bool) → is_stopped a ≡ s
        → (used xs (with_byte x a) ≡ length xs → used (xs ++ ys) (with_byte x a) ≡ length xs + used ys (with_bytes xs (with_byte x a)))
        → used (x ∷ (xs ++ ys)) a ≡ length (x ∷ xs) + used ys (with_bytes xs (with_byte x a))
    by true s h = let none : used (x ∷ xs) a ≡ 0 = uses-none (x ∷ xs) a s in absurd (omega arith)
    by false s h =
        let one : used (x ∷ xs) a ≡ 1 + used xs (with_byte x a) = uses-one x xs a s in
        omega (arith, uses-one x (xs ++ ys) a s, h (omega arith))

pub used-count : (bytes : List ℕ) (a : Account) → length (used_bytes bytes a) ≡ used bytes a
used-count bytes a = length-take-le (used bytes a) bytes (uses-within bytes a)

used-again : (bytes : List ℕ) (a : Account) → used (used_bytes bytes a) a ≡ used bytes a
used-again [] a = ap (λ n. used (take n []) a) (uses-nothing a)
used-again (b ∷ bytes) a = by (is_stopped a) refl (used-again bytes (with_byte b a))
  where
    by : (s : Bool) → is_stopped a ≡ s → used (used_bytes bytes (with_byte b a)) (with_byte b a) ≡ used bytes (with_byte b a)
        → used (used_bytes (b ∷ bytes) a) a ≡ used (b ∷ bytes) a
    by true s h = uses-none (used_bytes (b ∷ bytes) a) a s ∙ sym (uses-none (b ∷ bytes) a s)
    by false s h =
        ap (λ n. used (take n (b ∷ bytes)) a) (uses-suc b bytes a s)
        ∙ uses-suc b (used_bytes bytes (with_byte b a)) a s ∙ ap suc h ∙ sym (uses-suc b bytes a s)

pub used-whole : (bytes : List ℕ) (a : Account) → used (used_bytes bytes a) a ≡ length (used_bytes bytes a)
used-whole bytes a = used-again bytes a ∙ sym (used-count bytes a)
