-- What one more record makes of a oneof.
use Rattle.std.proofs.Common.{◌≡◌, ℕ, Bool, true, false, cond, eqb, not, List, [], ◌∷◌, ◌++◌, refl, sym, ap, subst, ◌∙◌, reverse, filter}
use Rattle.std.proofs.lemmas.Bool.{eqb-true, eqb-false, eq-eqb, ne_eqb}
use Rattle.std.proofs.lemmas.List.{append-nil, reverse-append}
use Rattle.std.proofs.lemmas.List.Elements.{filter-append}
use Rattle.pb_wire.specs.Records.{Entry}
use Rattle.ext_msgs.specs.Fields.{front_while, latest_in, latest}
use Rattle.ext_msgs.proofs.Fold.{AddsOne}

abbrev pub latest_add : (Entry → ℕ) → ℕ × List Entry → Entry → ℕ × List Entry
latest_add member run e = cond (eqb (member e) 0) run (cond (eqb (member e) run.0) (run.0, run.1 ++ e ∷ []) (member e, e ∷ []))

module _ (member : Entry → ℕ) where
  abbrev same : Entry → List Entry → List Entry
  same e es = front_while (λ other. eqb (member other) (member e)) es

  reversed_more : (e : Entry) (es : List Entry) → reverse (e ∷ es) ≡ reverse es ++ e ∷ []
  reversed_more e es = reverse-append (e ∷ []) es

  joins : (e : Entry) (rs : List Entry) → eqb (member e) 0 ≡ false → latest_in member (e ∷ rs) ≡ latest_add member (latest_in member rs) e
  joins e [] h = rw h refl
  joins e (x ∷ xs) h = with_test (eqb (member e) (member x)) refl
    where
      with_test : (b : Bool) → eqb (member e) (member x) ≡ b → latest_in member (e ∷ x ∷ xs) ≡ latest_add member (latest_in member (x ∷ xs)) e
      with_test true q =
          let eq : member e ≡ member x = eqb-true (member e) (member x) q in
          let back : eqb (member x) (member e) ≡ true = eq-eqb (member x) (member e) (sym eq) in
          let tail : same e xs ≡ same x xs = ap (λ n. front_while (λ other. eqb (member other) n) xs) eq in
          rw (h, q, back, tail) (ap (λ es. (member e, es)) (reversed_more e (x ∷ same x xs)) ∙ ap (λ n. (n, reverse (x ∷ same x xs) ++ e ∷ [])) eq)
      with_test false q =
          let back : eqb (member x) (member e) ≡ false = ne_eqb (member x) (member e) (λ eq. eqb-false (member e) (member x) q (sym eq)) in
          rw (h, q, back) refl

  abbrev sets : Entry → Bool
  sets e = not (eqb (member e) 0)

  pub latest_push : (es : List Entry) (e : Entry) → latest member (es ++ e ∷ []) ≡ latest_add member (latest member es) e
  latest_push es e = with_test (eqb (member e) 0) refl
    where
      with_test : (b : Bool) → eqb (member e) 0 ≡ b → latest member (es ++ e ∷ []) ≡ latest_add member (latest member es) e
      with_test true q =
          let one : filter sets (e ∷ []) ≡ [] = rw q refl in
          let all : filter sets (es ++ e ∷ []) ≡ filter sets es = filter-append sets es (e ∷ []) ∙ ap (λ s. filter sets es ++ s) one ∙ append-nil (filter sets es) in
          rw q (ap (λ s. latest_in member (reverse s)) all)
      with_test false q =
          let one : filter sets (e ∷ []) ≡ e ∷ [] = rw q refl in
          let all : filter sets (es ++ e ∷ []) ≡ filter sets es ++ e ∷ [] = filter-append sets es (e ∷ []) ∙ ap (λ s. filter sets es ++ s) one in
          ap (λ s. latest_in member (reverse s)) all ∙ ap (latest_in member) (reverse-append (filter sets es) (e ∷ [])) ∙ joins e (reverse (filter sets es)) q

-- A oneof's value goes with its records if it does so in each of the three ways.
pub oneof_one : {S : Type 0} (member : Entry → ℕ) (value : ℕ → List Entry → S) (add : S → Entry → S)
    → ((n : ℕ) (run : List Entry) (e : Entry) → member e ≡ 0 → add (value n run) e ≡ value n run)
    → ((run : List Entry) (e : Entry) → (member e ≡ 0 → ⊥) → add (value (member e) run) e ≡ value (member e) (run ++ e ∷ []))
    → ((n : ℕ) (run : List Entry) (e : Entry) → (member e ≡ 0 → ⊥) → (n ≡ member e → ⊥) → add (value n run) e ≡ value (member e) (e ∷ []))
    → AddsOne add (λ es. value (latest member es).0 (latest member es).1)
oneof_one {S} member value add keeps joined starts es e = by_run (latest member es) ∙ ap (λ run. value run.0 run.1) (sym (latest_push member es e))
  where
    goes : (run : ℕ × List Entry) (b c : Bool) → eqb (member e) 0 ≡ b → eqb (member e) run.0 ≡ c → add (value run.0 run.1) e ≡ value (latest_add member run e).0 (latest_add member run e).1
    goes run true c p q = rw p (keeps run.0 run.1 e (eqb-true (member e) 0 p))
    goes run false true p q =
        let same : member e ≡ run.0 = eqb-true (member e) run.0 q in
        rw (p, q) (subst (λ k. add (value k run.1) e ≡ value k (run.1 ++ e ∷ [])) same (joined run.1 e (eqb-false (member e) 0 p)))
    goes run false false p q = rw (p, q) (starts run.0 run.1 e (eqb-false (member e) 0 p) (λ h. eqb-false (member e) run.0 q (sym h)))

    by_run : (run : ℕ × List Entry) → add (value run.0 run.1) e ≡ value (latest_add member run e).0 (latest_add member run e).1
    by_run run = goes run (eqb (member e) 0) (eqb (member e) run.0) refl refl
