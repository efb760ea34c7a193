-- The first row of a table.
use Rattle.std.proofs.Common.{◌≡◌, ℕ, zero, suc, ◌+◌, ◌<◌, Bool, true, false, if◌then◌else◌, List, [], ◌∷◌, length, take, slice_index_or, Some, None, refl, subst, arith}
use Rattle.h2_model.specs.Codes.{first_row}

-- rows of which none holds, and one that does
pub row-there : (rows : List (Bool × ℕ)) (i : ℕ) (d : Bool × ℕ) → first_row (take i rows) ≡ None → i < length rows
    → (slice_index_or rows i d).0 ≡ true → first_row rows ≡ Some (slice_index_or rows i d).1
row-there [] i d n l e = absurd (omega (arith, l))
row-there (r ∷ rows) zero d n l e = rw e refl
row-there (r ∷ rows) (suc i) d n l e = by r.0 refl n (λ m. row-there rows i d m (omega (arith, l)) e)
  where
    by : (c : Bool) → r.0 ≡ c → (if c then Some r.1 else first_row (take i rows)) ≡ None
        → (first_row (take i rows) ≡ None → first_row rows ≡ Some (slice_index_or rows i d).1) → first_row (r ∷ rows) ≡ Some (slice_index_or rows i d).1
    by true q m ih = absurd cc
    by false q m ih = rw q (ih m)

-- rows of which none holds, and one more
passed : (rows : List (Bool × ℕ)) (i : ℕ) (d : Bool × ℕ) → first_row (take i rows) ≡ None → i < length rows
    → (slice_index_or rows i d).0 ≡ false → first_row (take (suc i) rows) ≡ None
passed [] i d n l e = absurd (omega (arith, l))
passed (r ∷ rows) zero d n l e = rw e refl
passed (r ∷ rows) (suc i) d n l e = by r.0 refl n (λ m. passed rows i d m (omega (arith, l)) e)
  where
    by : (c : Bool) → r.0 ≡ c → (if c then Some r.1 else first_row (take i rows)) ≡ None
        → (first_row (take i rows) ≡ None → first_row (take (suc i) rows) ≡ None) → first_row (r ∷ take (suc i) rows) ≡ None
    by true q m ih = absurd cc
    by false q m ih = rw q (ih m)

one-more : (i : ℕ) → suc i ≡ i + 1
one-more i = omega arith

pub row-passed : (rows : List (Bool × ℕ)) (i : ℕ) (d : Bool × ℕ) → first_row (take i rows) ≡ None → i < length rows
    → (slice_index_or rows i d).0 ≡ false → first_row (take (i + 1) rows) ≡ None
row-passed rows i d n l e = subst (λ k. first_row (take k rows) ≡ None) (one-more i) (passed rows i d n l e)
