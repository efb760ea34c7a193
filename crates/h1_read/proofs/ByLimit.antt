-- Reading within a limit, by what the bytes within it give.
use Rattle.std.proofs.Common.{sym, ◌∙◌, ap, refl, append-nil, arith, take_all, le-leb, leb-true, leb-false, inl, inr}
use Rattle.std.proofs.lemmas.List.{drop_all, drop-append-le, take-append-drop}
use Rattle.std.specs.Prelude.{ℕ, ◌≡◌, ◌<◌, ◌≤◌, ◌⊎◌, Bool, true, false, List, ◌++◌, length, take, drop, nat_le, if◌then◌else◌}
use Rattle.http_model.specs.Reading.{Reading, Whole, Partial, Bad, Fault, within, limited}

pub lt-leb : (m n : ℕ) → m < n → nat_le n m ≡ false
lt-leb m n h = by (nat_le n m) refl
  where
    never : n ≤ m → ⊥
    never g = omega (arith, h, g)

    by : (x : Bool) → nat_le n m ≡ x → nat_le n m ≡ false
    by true g = absurd (never (leb-true n m g))
    by false g = g

-- fewer bytes than the limit
pub limited_short : {A : Type 0} (n : ℕ) (long : Fault) (read : List ℕ → Reading A) (bytes : List ℕ) → length bytes < n
    → limited n long read bytes ≡ read bytes
limited_short {A} n long read bytes h =
    ap (λ b. within n long bytes (read b)) (take_all n bytes (omega (arith, h))) ∙ by (read bytes)
  where
    by : (r : Reading A) → within n long bytes r ≡ r
    by (Whole a rest) = ap (λ l. Whole a (rest ++ l)) (drop_all n bytes (omega (arith, h))) ∙ ap (Whole a) (append-nil rest)
    by Partial = ap (λ b. if b then Bad long else Partial) (lt-leb (length bytes) n h)
    by (Bad f) = refl

abbrev pub at_limit : {A : Type 0} → Fault → List ℕ → Reading A → Reading A
at_limit long others (Whole a rest) = Whole a (rest ++ others)
at_limit long others Partial = Bad long
at_limit long others (Bad f) = Bad f

-- as many as the limit, or more
pub limited_long : {A : Type 0} (n : ℕ) (long : Fault) (read : List ℕ → Reading A) (bytes : List ℕ) → n ≤ length bytes
    → limited n long read bytes ≡ at_limit long (drop n bytes) (read (take n bytes))
limited_long {A} n long read bytes h = by (read (take n bytes))
  where
    by : (r : Reading A) → within n long bytes r ≡ at_limit long (drop n bytes) r
    by (Whole a rest) = refl
    by Partial = ap (λ b. if b then Bad long else Partial) (le-leb n (length bytes) h)
    by (Bad f) = refl

-- what stands behind the front of the bytes within the limit stands behind the same front of all of them
pub behind_front : (n used : ℕ) (bytes : List ℕ) → used ≤ length (take n bytes) → drop used (take n bytes) ++ drop n bytes ≡ drop used bytes
behind_front n used bytes h =
    sym (drop-append-le used (take n bytes) (drop n bytes) h) ∙ ap (drop used) (take-append-drop n bytes)

-- either side of the limit
pub below_or_not : (n m : ℕ) → (m < n) ⊎ (n ≤ m)
below_or_not n m = by (nat_le n m) refl
  where
    by : (c : Bool) → nat_le n m ≡ c → (m < n) ⊎ (n ≤ m)
    by true e = inr (leb-true n m e)
    by false e = inl (leb-false n m e)
