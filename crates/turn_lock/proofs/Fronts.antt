-- Beginnings of one history.
use Rattle.std.proofs.Common.{◌≡◌, ◌≢◌, ℕ, ◌≤◌, inl, inr, List, [], ◌∷◌, ◌++◌, length, All, refl, sym, ap, ◌∙◌, subst, arith, length-append, append_assoc}
use Rattle.std.proofs.lemmas.List.Elements.{All-nil, All-cons, All-head, All-tail, All-append}
use Rattle.std.proofs.lemmas.List.{append-nil}
use mathlib.Core.List.{IsPrefix}
use native.Mathlib.Decide.{dec_le}
use Rattle.turn_lock.specs.declared.entry.Entry.{Entry}
use Rattle.turn_lock.specs.History.{IsOfOther, GoesOnWithout, IsLonger}

module _ {A : Type 0} where
  pub prefix_self : (xs : List A) → IsPrefix xs xs
  prefix_self xs = ([], append-nil xs)

  pub prefix_more : (xs ys zs : List A) → IsPrefix xs ys → IsPrefix xs (ys ++ zs)
  prefix_more xs ys zs p = (p.0 ++ zs, sym (append_assoc xs p.0 zs) ∙ ap (λ w. w ++ zs) p.1)

  pub prefix_length : (xs ys : List A) → IsPrefix xs ys → length xs ≤ length ys
  prefix_length xs ys p = omega (arith, sym (ap length p.1) ∙ length-append xs p.0)

  pub all_left : (P : A → Type 0) (xs ys : List A) → All P (xs ++ ys) → All P xs
  all_left P [] ys h = All-nil P
  all_left P (x ∷ xs) ys h = All-cons P x xs (All-head P x (xs ++ ys) h) (all_left P xs ys (All-tail P x (xs ++ ys) h))

  pub all_right : (P : A → Type 0) (xs ys : List A) → All P (xs ++ ys) → All P ys
  all_right P [] ys h = h
  all_right P (x ∷ xs) ys h = all_right P xs ys (All-tail P x (xs ++ ys) h)

module _ {C R : Type 0} where
  pub goes_self : (n : ℕ) (history : List (Entry C R)) → GoesOnWithout n history history
  goes_self n history = ([], append-nil history, All-nil (IsOfOther n))

  pub goes_more : (n : ℕ) (front history : List (Entry C R)) (e : Entry C R) → e.seat ≢ n → GoesOnWithout n front history → GoesOnWithout n front (history ++ e ∷ [])
  goes_more n front history e other g = (
    g.0 ++ e ∷ [],
    sym (append_assoc front g.0 (e ∷ [])) ∙ ap (λ w. w ++ e ∷ []) g.1,
    All-append (IsOfOther n) g.0 (e ∷ []) g.2 (All-cons (IsOfOther n) e [] other (All-nil (IsOfOther n))),
  )

  between : (n : ℕ) (a b history : List (Entry C R)) → GoesOnWithout n a history → IsPrefix b history → length a ≤ length b → GoesOnWithout n a b × GoesOnWithout n b history
  between n [] b history g p le = let all : All (IsOfOther n) (b ++ p.0) = subst (All (IsOfOther n)) (g.1 ∙ sym p.1) g.2 in
      ((b, refl, all_left (IsOfOther n) b p.0 all), (p.0, p.1, all_right (IsOfOther n) b p.0 all))
  between n (x ∷ a) [] history g p le = absurd (omega arith)
  between n (x ∷ a) (y ∷ b) [] g p le = absurd (cc (p.1))
  between n (x ∷ a) (y ∷ b) (z ∷ history) g p le = let heads : x ≡ y = cc (g.1, p.1) in let other : y ≡ z = cc (p.1) in
      let r = between n a b history (g.0, cc (g.1), g.2) (p.0, cc (p.1)) (omega arith) in
      ((r.0.0, cc (heads, r.0.1), r.0.2), (r.1.0, cc (other, r.1.1), r.1.2))

  pub longer : (n m : ℕ) (a b history : List (Entry C R)) → GoesOnWithout n a history → GoesOnWithout m b history → (c : List (Entry C R)) × IsLonger n m a b c × GoesOnWithout n c history
  longer n m a b history g h = elim (dec_le (length a) (length b)) as (λ _. (c : List (Entry C R)) × IsLonger n m a b c × GoesOnWithout n c history) [
    | yes le ↦ let r = between n a b history g (h.0, h.1) le in (b, record { either = inr refl; first_goes_on = r.0; second_goes_on = goes_self m b }, r.1)
    | no more ↦ let r = between m b a history h (g.0, g.1) (omega arith) in (a, record { either = inl refl; first_goes_on = goes_self n a; second_goes_on = r.0 }, g)
  ]
