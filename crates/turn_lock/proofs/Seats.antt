-- Seats come and go: a table begins with one, a split makes one more, and a join leaves one spent.
use Rattle.std.proofs.Common.{◌≡◌, ◌≢◌, ℕ, zero, suc, ◌+◌, ◌<◌, List, [], ◌∷◌, ◌++◌, length, set, All, Option, Some, refl, sym, ap, ◌∙◌, subst, ⊎_elim, arith, length-set, length-append}
use Rattle.std.proofs.lemmas.List.{set_comm}
use Rattle.std.proofs.lemmas.List.Elements.{All-nil, All-weaker}
use mathlib.Core.Logic.{dite}
use mathlib.Core.Option.{some, some-injective, some-ne-none}
use native.Mathlib.Decide.{ℕ_discrete}
use lib.ListN.{get_elem?}
use Rattle.atomic_table.specs.Table.{State, Splits, Joins, opening}
use Rattle.atomic_table.proofs.Lists.{set_here, set_else, at_longer}
use Rattle.turn_lock.specs.declared.entry.Entry.{Entry}
use Rattle.turn_lock.specs.declared.view.SeatNumber.TheVariants.{Known}
use Rattle.turn_lock.specs.declared.view.Stage.TheVariants.{Idle}
use Rattle.turn_lock.specs.declared.view.JoinedFront.TheVariants.{Compared, Of}
use Rattle.turn_lock.specs.declared.view.SeatView.{SeatView}
use Rattle.turn_lock.specs.declared.view.Counted.{Counted}
use Rattle.turn_lock.specs.History.{IsEarlier, IsOfOther, GoesOnWithout}
use Rattle.turn_lock.specs.Views.{number_in, first_view, spent_view, after_split, split_off, joined_view}
use Rattle.turn_lock.specs.Rule.{FitsNumber, IsJoined, FitsView, OneHistory}
use Rattle.turn_lock.proofs.Fronts.{all_left, goes_self}
use Rattle.turn_lock.proofs.Rule.{below, at_end, each_set, knows_joined, still}

module _ {T C R : Type 0} (stands : T → List (Entry C R) → Type 0) where
  -- the view of the new seat: no entry has its number, since all were made by seats before it
  new_fits : (s : State (Option (Counted T)) (SeatView C R)) (r : OneHistory stands s) (id : ℕ) (v : SeatView C R) → get_elem? s.views id ≡ some v → number_in v.number ≡ id
      → FitsView r.history r.turn r.holder (length s.views + 1) (length s.views) (split_off v)
  new_fits s r id v at named = let f = r.each id v at in let count : ℕ = length s.views in let near : id < count = below s.views id v at in record {
    front = f.front;
    noted = f.noted;
    alone = λ none. absurd (omega arith);
    number = (
      omega arith,
      all_left (IsEarlier count) v.front f.front.0 (subst (All (IsEarlier count)) (sym f.front.1) r.made),
      All-weaker (IsEarlier count) (IsOfOther count) (λ e lt is. omega arith) r.history r.made,
    );
    stage = tt;
  }

  pub splits : (id : ℕ) (v : SeatView C R) (n : ℕ) → v.number ≡ Known n → Splits (OneHistory stands) id v (after_split v) (split_off v)
  splits id v n named s r at = let f = r.each id v at in let number = subst (FitsNumber r.history v.front id) named f.number in let count : ℕ = length s.views in
      let w : SeatView C R = after_split v in let u : SeatView C R = split_off v in let vs : List (SeatView C R) = set s.views id w in let near : id < count = below s.views id v at in
      let long : length vs ≡ count = length-set s.views id w in
      let longer_by : length (vs ++ u ∷ []) ≡ count + 1 = length-append vs (u ∷ []) ∙ ap (λ k. k + 1) long in
      let more : (j : ℕ) (x : SeatView C R) → j ≢ id → get_elem? s.views j ≡ some x → FitsView r.history r.turn r.holder (count + 1) j x = λ j x other e. let g = r.each j x e in let b = below s.views j x e in record {
        front = g.front;
        noted = g.noted;
        alone = λ none. let one : count ≡ 1 = g.alone none in absurd (other (omega arith));
        number = g.number;
        stage = g.stage;
      } in
      let mine : FitsView r.history r.turn r.holder (count + 1) id w = record { front = f.front; noted = f.noted; alone = λ none. absurd (omega arith); number = f.number; stage = f.stage } in
      let new : FitsView r.history r.turn r.holder (count + 1) count u = new_fits s r id v at (ap number_in named ∙ number.0) in record {
        history = r.history;
        turn = r.turn;
        holder = r.holder;
        words = r.words;
        made = All-weaker (IsEarlier count) (IsEarlier (length (vs ++ u ∷ []))) (λ e lt. omega arith) r.history r.made;
        each = subst (λ k. (j : ℕ) (x : SeatView C R) → get_elem? (vs ++ u ∷ []) j ≡ some x → FitsView r.history r.turn r.holder k j x) (sym longer_by)
            (λ j x e. ⊎_elim (λ (h : get_elem? vs j ≡ some x). each_set (FitsView r.history r.turn r.holder (count + 1)) s.views id w mine more j x h)
            (λ (h : (j ≡ length vs) × (u ≡ x)). subst (λ (y : ℕ × SeatView C R). FitsView r.history r.turn r.holder (count + 1) y.0 y.1) (λ i. (sym (h.0 ∙ long) i, h.1 i)) new)
            (at_end vs u x j e));
        joined = λ j other x front e is. ⊎_elim
            (λ (h : get_elem? vs j ≡ some x). let g = knows_joined r.history s.views id v w at (λ h. h) (λ m k e. r.joined id m v k at e) r.joined j other x front h is in
            (g.0, (g.1.0, at_longer vs (u ∷ []) other g.1.0 g.1.1, g.1.2)))
            (λ (h : (j ≡ length vs) × (u ≡ x)). let none : Compared ≡ Of other front = ap (λ (y : SeatView C R). y.joined) h.1 ∙ is in absurd (cc (none)))
            (at_end vs u x j e);
        free = r.free;
        taken = λ out. let h = r.taken out in (
          h.0,
          dite (ℕ_discrete r.holder id)
              (λ is. (
                w,
                at_longer vs (u ∷ []) r.holder w (subst (λ j. get_elem? vs j ≡ some w) (sym is) (set_here s.views id w near)),
                ap (λ (x : SeatView C R). x.stage) (some-injective v h.1.0 (sym at ∙ (ap (get_elem? s.views) (sym is) ∙ h.1.1))) ∙ h.1.2,
              ))
              (λ other. (h.1.0, at_longer vs (u ∷ []) r.holder h.1.0 (set_else s.views id r.holder w other ∙ h.1.1), h.1.2)),
        );
      }

  -- the other is spent first, and then what it brought is taken in
  pub joins : (id : ℕ) (v : SeatView C R) (other : ℕ) (w : SeatView C R) (n : ℕ) → w.number ≡ Known n → w.stage ≡ Idle → Joins (OneHistory stands) id v other w (joined_view v w) spent_view
  unfolding still
  joins id v other w n named idle s r at apart there = let both : SeatView C R = joined_view v w in
      let was : get_elem? s.views other ≡ some w = sym (set_else s.views id other both apart) ∙ there in
      let f = r.each id v at in let g = r.each other w was in let a = f.noted in let b = g.noted in
      let number = subst (FitsNumber r.history w.front other) named g.number in
      let spent : List (SeatView C R) = set s.views other spent_view in
      let long : length spent ≡ length s.views = length-set s.views other spent_view in
      let s1 : State (Option (Counted T)) (SeatView C R) = record { words = s.words; homes = s.homes; views = spent } in
      let r1 = still stands s r other w spent_view was
      record { front = (r.history, refl); noted = omega arith; alone = λ none. absurd (omega arith); number = tt; stage = tt } (sym idle) (λ _. refl) (λ m k e. absurd (cc (e))) in
      let here : get_elem? spent id ≡ some v = set_else s.views other id spent_view (λ same. apart (sym same)) ∙ at in
      let gone : IsJoined spent (number_in w.number) = subst (IsJoined spent) (sym (ap number_in named ∙ number.0)) (spent_view, set_here s.views other spent_view (below s.views other w was), refl) in
      let goes : GoesOnWithout (number_in w.number) w.front r.history = subst (λ k. GoesOnWithout k w.front r.history) (sym (ap number_in named ∙ number.0)) number.1 in
      let r2 = still stands s1 r1 id v both here
      (subst (λ k. FitsView r.history r.turn r.holder k id both) (sym long) record { front = f.front; noted = omega arith; alone = f.alone; number = f.number; stage = f.stage }) refl (λ h. h)
      (λ m k e. let own : Of (number_in w.number) w.front ≡ Of m k = e in let e1 : number_in w.number ≡ m = cc own in let e2 : w.front ≡ k = cc own in
      (subst (λ (y : ℕ × List (Entry C R)). GoesOnWithout y.0 y.1 r.history) (λ i. (e1 i, e2 i)) goes, subst (IsJoined spent) e1 gone)) in
      subst (λ (vs : List (SeatView C R)). OneHistory stands record { words = s.words; homes = s.homes; views = vs }) (set_comm s.views other id spent_view both apart) r2

  only : (j : ℕ) (x : SeatView C R) → get_elem? (first_view ∷ []) j ≡ some x → FitsView [] 0 0 1 j x
  only zero x e = subst (FitsView [] 0 0 1 0) (some-injective first_view x e) record { front = ([], refl); noted = omega arith; alone = λ _. refl; number = (refl, goes_self 0 []); stage = tt }
  only (suc j) x e = absurd (some-ne-none x (sym e))

  none_joined : (j other : ℕ) (x : SeatView C R) (front : List (Entry C R)) → get_elem? (first_view ∷ []) j ≡ some x → x.joined ≡ Of other front → ⊥
  none_joined zero other x front e is = let none : Compared ≡ Of other front = ap (λ (y : SeatView C R). y.joined) (some-injective first_view x e) ∙ is in cc (none)
  none_joined (suc j) other x front e is = absurd (some-ne-none x (sym e))

  pub starts : (value : T) → stands value [] → OneHistory stands (opening (0 ∷ 0 ∷ []) (Some record { value = value; calls = 0 } ∷ []) first_view)
  starts value h = record {
    history = [];
    turn = 0;
    holder = 0;
    words = refl;
    made = All-nil (IsEarlier 1);
    each = only;
    joined = λ j other x front e is. absurd (none_joined j other x front e is);
    free = λ _. (record { value = value; calls = 0 }, refl, h, refl);
    taken = λ ne. absurd (ne refl);
  }
