-- Tests, filters and signed differences.
use Rattle.std.proofs.Common.{◌≡◌, ℕ, ◌+◌, Bool, true, false, not, ◌&&◌, ◌==◌, List, [], ◌∷◌, refl, sym, ◌∙◌, ap, if◌then◌else◌, filter, All, pos, neg_ℤ, ◌+ℤ◌, ◌-ℤ◌, eq-eqb, eqb-true, true≢false, slice_index_or, ne_eqb, ◌<◌, arith}
use Rattle.std.proofs.lemmas.List.Elements.{All-head, All-tail}
use Rattle.std.proofs.Math.IntN.{neg_ℤ-+ℤ, +ℤ_assoc, -ℤ-+ℤ_cancel}

-- Numbers

pub same-number : (n : ℕ) → (n == n) ≡ true
same-number n = eq-eqb n n refl

pub number-swapped : (m n : ℕ) → (m == n) ≡ (n == m)
number-swapped m n = by (m == n) refl (n == m) refl
  where
    by : (x : Bool) → (m == n) ≡ x → (y : Bool) → (n == m) ≡ y → (m == n) ≡ (n == m)
    by true p true q = p ∙ sym q
    by false p false q = p ∙ sym q
    by true p false q = p ∙ sym (eq-eqb n m (sym (eqb-true m n p)))
    by false p true q = eq-eqb m n (sym (eqb-true n m q)) ∙ sym q

pub less-more : (a s n : ℕ) → pos a -ℤ pos (s + n) ≡ (pos a -ℤ pos s) -ℤ pos n
less-more a s n = ap (λ z. pos a +ℤ z) (neg_ℤ-+ℤ (pos s) (pos n)) ∙ sym (+ℤ_assoc (pos a) (neg_ℤ (pos s)) (neg_ℤ (pos n)))

pub given-back : (a s n : ℕ) → pos a -ℤ pos s ≡ (pos a -ℤ pos (s + n)) +ℤ pos n
given-back a s n = sym (ap (λ z. z +ℤ pos n) (less-more a s n) ∙ -ℤ-+ℤ_cancel (pos a -ℤ pos s) (pos n))

pub not-zero : (n : ℕ) → 0 < n → (n == 0) ≡ false
not-zero n l = ne_eqb n 0 (λ e. absurd (omega arith))

-- what stands at one number doesn't stand at another
pub other-number : (s n id : ℕ) → (s == id) ≡ true → (n == id) ≡ false → (s == n) ≡ false
other-number s n id e f = by (s == n) refl
  where
    by : (c : Bool) → (s == n) ≡ c → (s == n) ≡ false
    by true g = absurd (true≢false (sym e ∙ ap (λ k. k == id) (eqb-true s n g) ∙ f))
    by false g = g

-- Tests

pub both-left : (x y : Bool) → (x && y) ≡ true → x ≡ true
both-left true y e = refl
both-left false y e = absurd cc

pub both-right : (x y : Bool) → (x && y) ≡ true → y ≡ true
both-right true y e = e
both-right false y e = absurd cc

pub and-not : (x : Bool) → (x && false) ≡ false
and-not true = refl
and-not false = refl

-- Filters

-- a filter that drops nothing
pub drops-none : {A : Type 0} (p : A → Bool) (xs : List A) → All (λ x. p x ≡ false) xs → filter (λ x. not (p x)) xs ≡ xs
drops-none p [] h = refl
drops-none p (x ∷ xs) h =
    rw (All-head (λ y. p y ≡ false) x xs h) (ap (λ l. x ∷ l) (drops-none p xs (All-tail (λ y. p y ≡ false) x xs h)))

-- two tests that agree on the elements of a list
pub same-filter : {A : Type 0} (p q : A → Bool) (xs : List A) → All (λ x. p x ≡ q x) xs → filter p xs ≡ filter q xs
same-filter p q [] h = refl
same-filter p q (x ∷ xs) h =
    rw (All-head (λ y. p y ≡ q y) x xs h)
    (ap (λ l. if q x then x ∷ l else l) (same-filter p q xs (All-tail (λ y. p y ≡ q y) x xs h)))

pub all-both : {A : Type 0} (P Q R : A → Type 0) → ((x : A) → P x → Q x → R x) → (xs : List A) → All P xs → All Q xs
    → All R xs
all-both P Q R f xs p q = λ k d l. f (slice_index_or xs k d) (p k d l) (q k d l)
