-- The step that counts a call: its entry ends the history.
use Rattle.std.proofs.Common.{◌≡◌, ◌≢◌, ℕ, ◌+◌, ◌-◌, ◌%◌, ◌^◌, ◌<◌, List, [], ◌∷◌, ◌++◌, length, get_or, set, All, Option, Some, refl, sym, ap, ◌∙◌, subst, arith, length-set, length-append}
use Rattle.std.proofs.lemmas.List.Elements.{All-nil, All-cons, All-append}
use Rattle.std.proofs.Math.Nat.{mod-eq_of_lt}
use mathlib.Core.Option.{some, none, some-injective}
use lib.ListN.{get_elem?}
use Rattle.atomic_table.specs.Table.{State, Me, step, keeps, stepped, Allows}
use Rattle.atomic_table.proofs.Lists.{set_here}
use Rattle.turn_lock.specs.declared.entry.Entry.{Entry}
use Rattle.turn_lock.specs.declared.view.SeatNumber.TheVariants.{Known}
use Rattle.turn_lock.specs.declared.view.Stage.TheVariants.{HasTurn}
use Rattle.turn_lock.specs.declared.view.JoinedFront.TheVariants.{Of}
use Rattle.turn_lock.specs.declared.view.SeatView.{SeatView}
use Rattle.turn_lock.specs.declared.view.Counted.{Counted}
use Rattle.turn_lock.specs.History.{entry, GoesOnWithout}
use Rattle.turn_lock.specs.Views.{with_entry}
use Rattle.turn_lock.specs.Rule.{FitsNumber, FitsStage, IsJoined, FitsView, OneHistory}
use Rattle.turn_lock.specs.Steps.{entry_added}
use Rattle.turn_lock.proofs.Fronts.{prefix_self, prefix_more, goes_self, goes_more}
use Rattle.turn_lock.proofs.Rule.{below, each_set, other_fits, number_more, knows_joined, count_is}

module _ {T C R : Type 0} (stands : T → List (Entry C R) → Type 0) where
  -- the view of a seat that isn't the caller's
  other_view : (history : List (Entry C R)) (turn holder count j : ℕ) (x : SeatView C R) (e : Entry C R) → e.seat ≢ j → j ≢ holder → FitsView history turn holder count j x → FitsView (history ++ e ∷ []) turn holder count j x
  other_view history turn holder count j x e other idle g = let long = length-append history (e ∷ []) in let noted = g.noted in record {
    front = prefix_more x.front history (e ∷ []) g.front;
    noted = omega arith;
    alone = g.alone;
    number = number_more history x.front j x.number e other g.number;
    stage = other_fits history (history ++ e ∷ []) turn holder turn holder j x.stage (λ _. idle) g.stage;
  }

  -- a seat that makes a call wasn't joined into another
  still_here : (s : State (Option (Counted T)) (SeatView C R)) (r : OneHistory stands s) (id other : ℕ) (v : SeatView C R) → get_elem? s.views id ≡ some v → v.number ≡ Known id → IsJoined s.views other → id ≢ other
  still_here s r id other v at named gone same =
      let who : v ≡ gone.0 = some-injective v gone.0 (sym at ∙ (ap (get_elem? s.views) same ∙ gone.1)) in cc (named, ap (λ (x : SeatView C R). x.number) who, gone.2)

  -- the table after the step
  counted_rule : (s : State (Option (Counted T)) (SeatView C R)) (r : OneHistory stands s) (id : ℕ) (me : Me (Option (Counted T)) (SeatView C R)) (e : Entry C R) → get_elem? s.views id ≡ some me.0 → me.0.stage ≡ HasTurn r.history → me.0.number ≡ Known id → e.seat ≡ id
      → length r.history < 2 ^ 64 - 1 → OneHistory stands (stepped s 1 ((get_or s.words 1 0 + 1) % 2 ^ 64) id me.1 (with_entry (r.history ++ e ∷ []) me.0) keeps)
  counted_rule s r id me e at has named mine room = let v = me.0 in let f = r.each id v at in let history : List (Entry C R) = r.history ++ e ∷ [] in let w : SeatView C R = with_entry history v in
      let stage = subst (FitsStage r.history r.turn r.holder id) has f.stage in
      let long : length (set s.views id w) ≡ length s.views = length-set s.views id w in
      let longer : length history ≡ length r.history + 1 = length-append r.history (e ∷ []) in
      let was : get_or s.words 1 0 ≡ length r.history = count_is stands s r in
      let next : (get_or s.words 1 0 + 1) % 2 ^ 64 ≡ length history = mod-eq_of_lt (omega arith) ∙ omega arith in
      let near : id < length s.views = below s.views id v at in
      let more : (j other : ℕ) (x : SeatView C R) (front : List (Entry C R)) → get_elem? s.views j ≡ some x → x.joined ≡ Of other front → GoesOnWithout other front history × IsJoined s.views other
      = λ j other x front here is. let g = r.joined j other x front here is in (goes_more other front r.history e (λ same. still_here s r id other v at named g.1 (sym mine ∙ same)) g.0, g.1) in
      let IsMade : Entry C R → Type 0 = λ x. x.seat < length s.views in record {
        history = history;
        turn = r.turn;
        holder = r.holder;
        words = ap (λ ws. set ws 1 ((get_or s.words 1 0 + 1) % 2 ^ 64)) r.words ∙ ap (λ k. r.turn ∷ k ∷ []) next;
        made = subst (λ n. All (λ (x : Entry C R). x.seat < n) history) (sym long) (All-append IsMade r.history (e ∷ []) r.made (All-cons IsMade e [] (omega arith) (All-nil IsMade)));
        each = subst (λ n. (j : ℕ) (x : SeatView C R) → get_elem? (set s.views id w) j ≡ some x → FitsView history r.turn r.holder n j x) (sym long)
            (each_set (FitsView history r.turn r.holder (length s.views)) s.views id w
            record {
              front = prefix_self history;
              noted = let h = f.noted in omega arith;
              alone = f.alone;
              number = subst (FitsNumber history history id) (sym named) (refl, goes_self id history);
              stage = (stage.0, stage.1, refl);
            }
            (λ j x other h. other_view r.history r.turn r.holder (length s.views) j x e (λ same. other (sym same ∙ mine)) (λ is. other (is ∙ sym stage.1)) (r.each j x h)));
        joined = knows_joined history s.views id v w at (λ h. h) (λ m k e. more id m v k at e) more;
        free = λ z. let one : r.turn ≡ 1 = stage.0 in absurd (omega arith);
        taken = λ _. (stage.0, (w, subst (λ j. get_elem? (set s.views id w) j ≡ some w) stage.1 (set_here s.views id w near), refl));
      }

  pub adds_entry : (slots id : ℕ) (me : Me (Option (Counted T)) (SeatView C R)) (call : Option C) (reply : Option R) (history : List (Entry C R)) (n : ℕ) (c : C) (a : R) → me.0.stage ≡ HasTurn history → me.0.number ≡ Known n → length history < 2 ^ 64 - 1
      → call ≡ Some c → reply ≡ Some a → Allows (OneHistory stands) slots id me 1 (λ k. (k + 1) % 2 ^ 64) (entry_added stands call reply (step slots 1 1 0 none) me)
  adds_entry slots id me call reply history n c a has named room said answer s r _ at _ = let v = me.0 in let f = r.each id v at in
      let stage = subst (FitsStage r.history r.turn r.holder id) has f.stage in let number = subst (FitsNumber r.history v.front id) named f.number in
      let all : history ≡ r.history = stage.2 in let e : Entry C R = entry n c a in
      let was : get_or s.words 1 0 ≡ length history = count_is stands s r ∙ sym (ap length all) in (
        with_entry (history ++ e ∷ []) v,
        keeps,
        tt,
        subst (λ (l : List (Entry C R)). OneHistory stands (stepped s 1 ((get_or s.words 1 0 + 1) % 2 ^ 64) id me.1 (with_entry (l ++ e ∷ []) v) keeps)) (sym all)
            (counted_rule s r id me e at (has ∙ ap HasTurn all) (named ∙ ap Known number.0) number.0 (subst (λ (l : List (Entry C R)). length l < 2 ^ 64 - 1) all room)),
        (
          refl,
          λ history' n' c' a' has' named' said' answer'.
              let e1 : HasTurn history ≡ HasTurn history' = sym has ∙ has' in let e2 : Known n ≡ Known n' = sym named ∙ named' in
              let e3 : Some c ≡ Some c' = sym said ∙ said' in let e4 : Some a ≡ Some a' = sym answer ∙ answer' in
              let d1 : history ≡ history' = cc e1 in let d2 : n ≡ n' = cc e2 in let d3 : c ≡ c' = cc e3 in let d4 : a ≡ a' = cc e4 in
              (was ∙ ap length d1, λ i. with_entry (d1 i ++ entry (d2 i) (d3 i) (d4 i) ∷ []) v),
        ),
      )
