-- The lowest stream without a head is the first of them that was opened.
use Rattle.std.proofs.Common.{◌≡◌, ℕ, ◌≤◌, ◌<◌, Bool, true, false, ◌||◌, ◌==◌, List, [], ◌∷◌, Option, Some, None, refl, sym, ◌∙◌, ap, subst, if◌then◌else◌, reverse, find, All, arith, eqb-true, true≢false}
use Rattle.std.specs.List.{list_any}
use Rattle.std.specs.Option.{option_or}
use Rattle.std.proofs.lemmas.List.Elements.{All-head, All-tail}
use Rattle.std.proofs.lemmas.List.Folds.{find-append}
use Rattle.h2_model.specs.Valid.{Descends}
use Rattle.h2_laws_log.proofs.Opens.{reverse-cons}

found-last : (p : ℕ → Bool) (x : ℕ) (xs : List ℕ)
    → find p (reverse (x ∷ xs)) ≡ option_or (find p (reverse xs)) (if p x then Some x else None)
found-last p x xs = ap (find p) (reverse-cons x xs) ∙ find-append p (reverse xs) (x ∷ [])

-- what is found is one of them
found-below : (p : ℕ → Bool) (n top : ℕ) (xs : List ℕ) → All (λ m. m < top) xs → find p (reverse xs) ≡ Some n → n < top
found-below p n top [] h e = absurd cc
found-below p n top (x ∷ xs) h e =
    by (found-below p n top xs (All-tail (λ m. m < top) x xs h)) (find p (reverse xs)) refl (p x) (sym (found-last p x xs) ∙ e)
  where
    by : (find p (reverse xs) ≡ Some n → n < top) → (o : Option ℕ) → find p (reverse xs) ≡ o → (c : Bool)
        → option_or o (if c then Some x else None) ≡ Some n → n < top
    by ih (Some m) f c g = ih (f ∙ g)
    by ih None f true g = let same : x ≡ n = cc in subst (λ m. m < top) same (All-head (λ m. m < top) x xs h)
    by ih None f false g = absurd cc

-- where one passes, one is found
pub found-some : (p : ℕ → Bool) (m : ℕ) (xs : List ℕ) → list_any (λ k. k == m) xs ≡ true → p m ≡ true → find p (reverse xs) ≡ None → ⊥
found-some p m [] o q e = true≢false (sym o)
found-some p m (x ∷ xs) o q e =
    by (λ i. found-some p m xs i q) (find p (reverse xs)) refl (x == m) refl o (p x) refl (sym (found-last p x xs) ∙ e)
  where
    by : (list_any (λ k. k == m) xs ≡ true → find p (reverse xs) ≡ None → ⊥) → (r : Option ℕ) → find p (reverse xs) ≡ r → (s : Bool) → (x == m) ≡ s → (s || list_any (λ k. k == m) xs) ≡ true
        → (c : Bool) → p x ≡ c → option_or r (if c then Some x else None) ≡ None → ⊥
    by ih (Some n) f s i o c g e = cc
    by ih None f s i o true g e = cc
    by ih None f true i o false g e = true≢false (sym q ∙ ap p (sym (eqb-true x m i)) ∙ g)
    by ih None f false i o false g e = ih o f

-- and none that passes is lower
pub found-lowest : (p : ℕ → Bool) (n m : ℕ) (xs : List ℕ) → Descends xs → find p (reverse xs) ≡ Some n
    → list_any (λ k. k == m) xs ≡ true → p m ≡ true → n ≤ m
found-lowest p n m [] d e o q = absurd cc
found-lowest p n m (x ∷ xs) d e o q =
    by (λ f i. found-lowest p n m xs d.2 f i q) (find p (reverse xs)) refl (x == m) refl o (p x) (sym (found-last p x xs) ∙ e)
  where
    by : (find p (reverse xs) ≡ Some n → list_any (λ k. k == m) xs ≡ true → n ≤ m) → (r : Option ℕ) → find p (reverse xs) ≡ r → (s : Bool) → (x == m) ≡ s → (s || list_any (λ k. k == m) xs) ≡ true
        → (c : Bool) → option_or r (if c then Some x else None) ≡ Some n → n ≤ m
    by ih (Some k) f true i o c g =
        let low : n < x = found-below p n x xs d.1 (f ∙ g) in
        let same : x ≡ m = eqb-true x m i in
        omega arith
    by ih (Some k) f false i o c g = ih (f ∙ g) o
    by ih None f true i o true g =
        let same : x ≡ m = eqb-true x m i in
        let here : x ≡ n = cc in
        omega arith
    by ih None f s i o false g = absurd cc
    by ih None f false i o true g = absurd (found-some p m xs o q f)
