-- What was read stays read: the combinators keep it so.
use Rattle.std.proofs.Common.{inl, inr, sym, ◌∙◌, ap, subst, append_assoc, append-nil, refl, arith, le-leb, leb-true, leb-false, length-append, take_all, length-drop, length-take}
use Rattle.std.proofs.lemmas.List.{take-append-le, drop-append-le, drop_all, take-append-drop}
use Rattle.std.specs.Prelude.{ℕ, ◌≡◌, ◌⊎◌, ◌+◌, ◌-◌, ◌<◌, ◌≤◌, Bool, true, false, List, [], ◌∷◌, ◌++◌, length, take, drop, nat_le, if◌then◌else◌}
use Rattle.http_model.specs.Reading.{Reading, Whole, Partial, Bad, Fault, onward, within, limited, Stays}

-- whatever bytes follow
abbrev pub IsStable : {A : Type 0} → (List ℕ → Reading A) → Type 0
IsStable read = (bytes more : List ℕ) → Stays (read bytes) more (read (bytes ++ more))

pub onward-stays : {A B : Type 0} (r r' : Reading A) (more : List ℕ) (next : A → List ℕ → Reading B)
    → ((a : A) (rest : List ℕ) → r ≡ Whole a rest → Stays (next a rest) more (next a (rest ++ more)))
    → Stays r more r' → Stays (onward r next) more (onward r' next)
onward-stays (Whole a rest) r' more next k e =
    subst (λ x. Stays (next a rest) more (onward x next)) (sym e) (k a rest refl)
onward-stays Partial r' more next k e = tt
onward-stays (Bad f) r' more next k e = ap (λ x. onward x next) e

-- Limits

-- bytes that reach the limit, or don't yet
pub record Reaches (n : ℕ) (bytes more : List ℕ) : Type 0 where
  pub long : n ≤ length bytes
  pub taken : take n (bytes ++ more) ≡ take n bytes
  pub dropped : drop n (bytes ++ more) ≡ drop n bytes ++ more

pub record Within (n : ℕ) (bytes more : List ℕ) : Type 0 where
  pub short : nat_le n (length bytes) ≡ false
  pub taken : take n bytes ≡ bytes
  pub dropped : drop n bytes ≡ []
  pub next : List ℕ
  pub others : List ℕ
  pub joined : next ++ others ≡ more
  pub taken_more : take n (bytes ++ more) ≡ bytes ++ next
  pub dropped_more : drop n (bytes ++ more) ≡ others

take_past : {A : Type 0} (xs ys : List A) (k : ℕ) → take (length xs + k) (xs ++ ys) ≡ xs ++ take k ys
take_past [] ys k = ap (λ n. take n ys) (plus k)
  where
    plus : (k : ℕ) → 0 + k ≡ k
    plus k = omega arith
take_past (x ∷ xs) ys k = ap (λ n. take n (x ∷ (xs ++ ys))) (plus (length xs) k) ∙ ap (λ l. x ∷ l) (take_past xs ys k)
  where
    plus : (n k : ℕ) → ℕ.suc n + k ≡ ℕ.suc (n + k)
    plus n k = omega arith

drop_past : {A : Type 0} (xs ys : List A) (k : ℕ) → drop (length xs + k) (xs ++ ys) ≡ drop k ys
drop_past [] ys k = ap (λ n. drop n ys) (plus k)
  where
    plus : (k : ℕ) → 0 + k ≡ k
    plus k = omega arith
drop_past (x ∷ xs) ys k = ap (λ n. drop n (x ∷ (xs ++ ys))) (plus (length xs) k) ∙ drop_past xs ys k
  where
    plus : (n k : ℕ) → ℕ.suc n + k ≡ ℕ.suc (n + k)
    plus n k = omega arith

pub at_limit : (n : ℕ) (bytes more : List ℕ) → Reaches n bytes more ⊎ Within n bytes more
at_limit n bytes more = by (nat_le n (length bytes)) refl
  where
    rest_of : (n m : ℕ) → m < n → n ≡ m + (n - m)
    rest_of n m h = omega arith

    by : (b : Bool) → nat_le n (length bytes) ≡ b → Reaches n bytes more ⊎ Within n bytes more
    by true e =
        let h : n ≤ length bytes = leb-true n (length bytes) e in
        inl (record { long = h; taken = take-append-le n bytes more h; dropped = drop-append-le n bytes more h })
    by false e =
        let h : length bytes < n = leb-false n (length bytes) e in
        let split : n ≡ length bytes + (n - length bytes) = rest_of n (length bytes) h in
        inr (record {
          short = e;
          taken = take_all n bytes (omega (arith, h));
          dropped = drop_all n bytes (omega (arith, h));
          next = take (n - length bytes) more;
          others = drop (n - length bytes) more;
          joined = take-append-drop (n - length bytes) more;
          taken_more = ap (λ k. take k (bytes ++ more)) split ∙ take_past bytes more (n - length bytes);
          dropped_more = ap (λ k. drop k (bytes ++ more)) split ∙ drop_past bytes more (n - length bytes);
        })

pub limited-stays : {A : Type 0} (n : ℕ) (long : Fault) (read : List ℕ → Reading A) → IsStable read → IsStable (limited n long read)
limited-stays {A} n long read k bytes more = by (at_limit n bytes more)
  where
    reached : (r r' : Reading A) (w : Reaches n bytes more) → r' ≡ r → Stays (within n long bytes r) more (within n long (bytes ++ more) r')
    reached (Whole a rest) r' w e =
        ap (within n long (bytes ++ more)) e
        ∙ ap (λ l. Whole a (rest ++ l)) w.dropped
        ∙ ap (Whole a) (sym (append_assoc rest (drop n bytes) more))
    reached Partial r' w e = too_long r' (nat_le n (length bytes)) (le-leb n (length bytes) w.long) e
      where
        still : nat_le n (length (bytes ++ more)) ≡ true
        still = le-leb n (length (bytes ++ more)) (omega (arith, w.long, length-append bytes more))

        too_long : (r' : Reading A) (b : Bool) → b ≡ true → r' ≡ Partial → Stays {A = A} (if b then Bad long else Partial) more (within n long (bytes ++ more) r')
        too_long r' true g e = ap (within n long (bytes ++ more)) e ∙ ap (λ b. if b then Bad long else Partial) still
        too_long r' false g e = tt
    reached (Bad f) r' w e = ap (within n long (bytes ++ more)) e

    within_it : (r r' : Reading A) (w : Within n bytes more) → Stays r w.next r' → Stays (within n long bytes r) more (within n long (bytes ++ more) r')
    within_it (Whole a rest) r' w e =
        ap (within n long (bytes ++ more)) e
        ∙ ap (λ l. Whole a ((rest ++ w.next) ++ l)) w.dropped_more
        ∙ ap (Whole a) (append_assoc rest w.next w.others ∙ ap (λ l. rest ++ l) w.joined)
        ∙ ap (λ l. Whole a (l ++ more)) (sym (ap (λ l. rest ++ l) w.dropped ∙ append-nil rest))
    within_it Partial r' w e = awaits (nat_le n (length bytes)) w.short
      where
        awaits : (b : Bool) → b ≡ false → Stays {A = A} (if b then Bad long else Partial) more (within n long (bytes ++ more) r')
        awaits true g = absurd cc
        awaits false g = tt
    within_it (Bad f) r' w e = ap (within n long (bytes ++ more)) e

    by : Reaches n bytes more ⊎ Within n bytes more → Stays (limited n long read bytes) more (limited n long read (bytes ++ more))
    by (inl w) = reached (read (take n bytes)) (read (take n (bytes ++ more))) w (ap read w.taken)
    by (inr w) = within_it (read (take n bytes)) (read (take n (bytes ++ more))) w
        (subst (λ l. Stays (read l) w.next (read (take n (bytes ++ more)))) (sym w.taken)
        (subst (λ l. Stays (read bytes) w.next (read l)) (sym w.taken_more) (k bytes w.next)))

-- What was read is taken off

abbrev pub LeavesUnder : {A : Type 0} → ℕ → Reading A → Type 0
LeavesUnder n (Whole a rest) = length rest < n
LeavesUnder n Partial = Unit {0}
LeavesUnder n (Bad f) = Unit {0}

pub onward-leaves : {A B : Type 0} (n : ℕ) (r : Reading A) (next : A → List ℕ → Reading B)
    → ((a : A) (rest : List ℕ) → length rest < n → LeavesUnder n (next a rest)) → LeavesUnder n r → LeavesUnder n (onward r next)
onward-leaves n (Whole a rest) next k e = k a rest e
onward-leaves n Partial next k e = tt
onward-leaves n (Bad f) next k e = tt

pub limited-leaves : {A : Type 0} (n : ℕ) (long : Fault) (read : List ℕ → Reading A) → ((bytes : List ℕ) → LeavesUnder (length bytes) (read bytes))
    → (bytes : List ℕ) → LeavesUnder (length bytes) (limited n long read bytes)
limited-leaves {A} n long read k bytes = by (read (take n bytes)) (k (take n bytes))
  where
    awaits : (b : Bool) → LeavesUnder {A = A} (length bytes) (if b then Bad long else Partial)
    awaits true = tt
    awaits false = tt

    by : (r : Reading A) → LeavesUnder (length (take n bytes)) r → LeavesUnder (length bytes) (within n long bytes r)
    by (Whole a rest) e =
        omega (arith, e, length-append rest (drop n bytes), length-take n bytes, length-drop n bytes)
    by Partial e = awaits (nat_le n (length bytes))
    by (Bad f) e = tt
