-- Texts byte by byte.
use Rattle.std.proofs.Common.{◌≡◌, ◌≢◌, ℕ, suc, ◌+◌, ◌-◌, ◌<◌, ◌≤◌, ◌==◌, ◌&&◌, Bool, true, false, if◌then◌else◌, List, [], ◌∷◌, ◌++◌, length, get_or, take, drop, refl, sym, ap, ◌∙◌, arith, subst, bytes_eq}
use Rattle.std.proofs.lemmas.List.{drop_more, drop_all, take_more}
use Rattle.std.proofs.lemmas.Bool.Decides.{nat_tests}
use Rattle.http_model.specs.Bytes.{is_empty, is_blank, lower_byte, lower, trim_start, trim_end}
use Rattle.h1_read.proofs.FieldText.{some_last}

-- In lower case

same_byte : (a b : ℕ) (s t : List ℕ) → a ≡ b → bytes_eq (a ∷ s) (b ∷ t) ≡ bytes_eq s t
same_byte a b s t e =
    let same : (a == b) ≡ true = grind (arith, nat_tests, e) in
    ap (λ x. x && bytes_eq s t) same

pub same_next : (s t : List ℕ) (i : ℕ) → i < length s → i < length t → lower_byte (get_or s i 0) ≡ get_or t i 0
    → bytes_eq (lower (drop i s)) (drop i t) ≡ bytes_eq (lower (drop (i + 1) s)) (drop (i + 1) t)
same_next s t i h k e = rw (drop_more s i 0 h, drop_more t i 0 k) (same_byte (lower_byte (get_or s i 0)) (get_or t i 0) (lower (drop (i + 1) s)) (drop (i + 1) t) e)

pub differs_here : (s t : List ℕ) (i : ℕ) → i < length s → i < length t → lower_byte (get_or s i 0) ≢ get_or t i 0
    → bytes_eq (lower (drop i s)) (drop i t) ≡ false
differs_here s t i h k e = rw (drop_more s i 0 h, drop_more t i 0 k) (ap (λ x. x && bytes_eq (lower (drop (i + 1) s)) (drop (i + 1) t)) other)
  where
    other : (lower_byte (get_or s i 0) == get_or t i 0) ≡ false
    other = grind (arith, nat_tests, e)

pub same_end : (s t : List ℕ) (i : ℕ) → length s ≤ i → length t ≤ i → bytes_eq (lower (drop i s)) (drop i t) ≡ true
same_end s t i h k = rw (drop_all i s h, drop_all i t k) refl

pub other_length : (s t : List ℕ) → length s ≢ length t → bytes_eq (lower s) t ≡ false
other_length [] [] e = absurd (e refl)
other_length [] (b ∷ t) e = refl
other_length (a ∷ s) [] e = refl
other_length (a ∷ s) (b ∷ t) e = ap (λ x. (lower_byte a == b) && x) (other_length s t (λ f. e (ap suc f))) ∙ never (lower_byte a == b)
  where
    never : (x : Bool) → (x && false) ≡ false
    never true = refl
    never false = refl

-- Blanks

pub start_next : (s : List ℕ) (i : ℕ) → i < length s → is_blank (get_or s i 0) ≡ true → trim_start (drop i s) ≡ trim_start (drop (i + 1) s)
start_next s i h e = rw (drop_more s i 0 h) (ap (λ t. if t then trim_start (drop (i + 1) s) else get_or s i 0 ∷ drop (i + 1) s) e)

pub start_here : (s : List ℕ) (i : ℕ) → i < length s → is_blank (get_or s i 0) ≡ false → trim_start (drop i s) ≡ drop i s
start_here s i h e = rw (drop_more s i 0 h) (ap (λ t. if t then trim_start (drop (i + 1) s) else get_or s i 0 ∷ drop (i + 1) s) e)

pub start_none : (s : List ℕ) (i : ℕ) → length s ≤ i → trim_start (drop i s) ≡ drop i s
start_none s i h = rw (drop_all i s h) refl

blank_last : (s : List ℕ) (b : ℕ) → is_blank b ≡ true → trim_end (s ++ b ∷ []) ≡ trim_end s
blank_last [] b e = ap (λ t. if t && true then [] else b ∷ []) e
blank_last (c ∷ s) b e = ap (λ r. if is_blank c && is_empty r then [] else c ∷ r) (blank_last s b e)

other_last : (s : List ℕ) (b : ℕ) → is_blank b ≡ false → trim_end (s ++ b ∷ []) ≡ s ++ b ∷ []
other_last [] b e = ap (λ t. if t && true then [] else b ∷ []) e
other_last (c ∷ s) b e =
    ap (λ r. if is_blank c && is_empty r then [] else c ∷ r) (other_last s b e)
    ∙ ap (λ t. if is_blank c && t then [] else c ∷ (s ++ b ∷ [])) (some_last s b)
    ∙ never (is_blank c)
  where
    never : (x : Bool) → (if x && false then [] else c ∷ (s ++ b ∷ [])) ≡ c ∷ (s ++ b ∷ [])
    never true = refl
    never false = refl

last_of : (s : List ℕ) (n : ℕ) → 0 < n → n ≤ length s → take n s ≡ take (n - 1) s ++ get_or s (n - 1) 0 ∷ []
last_of s n some fits =
    let one : n - 1 + 1 ≡ n = omega arith in
    subst (λ k. take k s ≡ take (n - 1) s ++ get_or s (n - 1) 0 ∷ []) one (take_more s (n - 1) 0 (omega arith))

pub end_before : (s : List ℕ) (n : ℕ) → 0 < n → n ≤ length s → is_blank (get_or s (n - 1) 0) ≡ true → trim_end (take n s) ≡ trim_end (take (n - 1) s)
end_before s n some fits e = ap trim_end (last_of s n some fits) ∙ blank_last (take (n - 1) s) (get_or s (n - 1) 0) e

pub end_here : (s : List ℕ) (n : ℕ) → 0 < n → n ≤ length s → is_blank (get_or s (n - 1) 0) ≡ false → trim_end (take n s) ≡ take n s
end_here s n some fits e = ap trim_end (last_of s n some fits) ∙ other_last (take (n - 1) s) (get_or s (n - 1) 0) e ∙ sym (last_of s n some fits)
