-- The parts of a line round its first space.
use Rattle.std.proofs.Common.{◌≡◌, ◌≢◌, ℕ, zero, suc, ◌+◌, ◌<◌, List, [], ◌∷◌, ◌++◌, length, get_or, take, drop, add-one, drop-cons, take-suc, append-nil, ◌∙◌, sym, Some, None, Option, refl, ap, arith, eq-eqb, subst}
use Rattle.std.proofs.lemmas.Bool.{ne_eqb}
use Rattle.std.proofs.lemmas.Grind.{common_steps}
use Rattle.trace_format.specs.Lines.{parted}

-- no byte is a space
abbrev pub NoSpace : List ℕ → Type 0
NoSpace [] = Unit {0}
NoSpace (b ∷ bs) = (b ≢ 32) × NoSpace bs

pub parted_at : (before behind : List ℕ) → NoSpace before → parted (before ++ 32 ∷ behind) ≡ (before, Some behind)
parted_at [] behind h = refl
parted_at (b ∷ bs) behind h = rw (ne_eqb b 32 h.0, parted_at bs behind h.1) refl

pub parted_none : (text : List ℕ) → NoSpace text → parted text ≡ (text, None)
parted_none [] h = refl
parted_none (b ∷ bs) h = rw (ne_eqb b 32 h.0, parted_none bs h.1) refl

-- one byte further
pub no_space_to : (text : List ℕ) (i : ℕ) → i < length text → NoSpace (take i text) → get_or text i 0 ≢ 32 → NoSpace (take (suc i) text)
no_space_to [] i lt h n = absurd (omega arith)
no_space_to (x ∷ xs) zero lt h n = (n, tt)
no_space_to (x ∷ xs) (suc i) lt h n = (h.0, no_space_to xs i (omega arith) h.1 n)

-- the first space, and the parts round it
pub parted_by : (text : List ℕ) (i : ℕ) → i < length text → NoSpace (take i text) → get_or text i 0 ≡ 32 → parted text ≡ (take i text, Some (drop (suc i) text))
parted_by [] i lt h e = absurd (omega arith)
parted_by (x ∷ xs) zero lt h e = rw (eq-eqb x 32 e) (refl)
parted_by (x ∷ xs) (suc i) lt h e = rw (ne_eqb x 32 h.0, parted_by xs i (omega arith) h.1 e) refl

pub all_taken : (text : List ℕ) (i : ℕ) → length text ≡ i → NoSpace (take i text) → NoSpace text
all_taken [] i e h = tt
all_taken (x ∷ xs) zero e h = absurd (omega arith)
all_taken (x ∷ xs) (suc i) e h = (h.0, all_taken xs i (omega arith) h.1)

pub behind_one : (text : List ℕ) (i : ℕ) → drop 1 (drop i text) ≡ drop (suc i) text
behind_one text zero = refl
behind_one [] (suc i) = refl
behind_one (x ∷ xs) (suc i) = behind_one xs i
