-- A seat's own entries in a front that goes on.
use Rattle.std.proofs.Common.{◌≡◌, ℕ, ◌==◌, List, [], ◌∷◌, ◌++◌, All, refl, sym, ap, ◌∙◌, append_assoc, eq-eqb, ne_eqb}
use Rattle.std.proofs.lemmas.List.Elements.{All-head, All-tail, filter-append}
use Rattle.turn_lock.specs.declared.entry.Entry.{Entry}
use Rattle.turn_lock.specs.History.{entry, IsOfOther, GoesOnWithout, own_entries, Made}

module _ {C R : Type 0} (n : ℕ) where
  own_append : (xs ys : List (Entry C R)) → own_entries n (xs ++ ys) ≡ own_entries n xs ++ own_entries n ys
  own_append xs ys = filter-append (λ (e : Entry C R). e.seat == n) xs ys

  own_none : (xs : List (Entry C R)) → All (IsOfOther n) xs → own_entries n xs ≡ []
  own_none [] h = refl
  own_none (x ∷ xs) h = rw (ne_eqb x.seat n (All-head (IsOfOther n) x xs h)) (own_none xs (All-tail (IsOfOther n) x xs h))

  pub made_none : (before after : List (Entry C R)) → GoesOnWithout n before after → Made n before after []
  made_none before after g = record { rest = g.0; goes_on = g.1; own_are = own_none g.0 g.2 }

  pub made_one : (before others : List (Entry C R)) (call : C) (reply : R) → All (IsOfOther n) others → Made n before (before ++ others ++ entry n call reply ∷ []) (entry n call reply ∷ [])
  made_one before others call reply apart = let e : Entry C R = entry n call reply in record {
    rest = others ++ e ∷ [];
    goes_on = sym (append_assoc before others (e ∷ []));
    own_are = own_append others (e ∷ []) ∙ (ap (λ l. l ++ own_entries n (e ∷ [])) (own_none others apart) ∙ rw (eq-eqb n n refl) refl);
  }

  pub made_more : (a b c xs ys : List (Entry C R)) → Made n a b xs → Made n b c ys → Made n a c (xs ++ ys)
  made_more a b c xs ys p q = record {
    rest = p.rest ++ q.rest;
    goes_on = sym (append_assoc a p.rest q.rest) ∙ (ap (λ l. l ++ q.rest) p.goes_on ∙ q.goes_on);
    own_are = own_append p.rest q.rest ∙ (ap (λ l. l ++ own_entries n q.rest) p.own_are ∙ ap (λ l. xs ++ l) q.own_are);
  }
