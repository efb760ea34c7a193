-- What the proofs on steps share: lists of views, and steps that change one view alone.
use Rattle.std.proofs.Common.{◌≡◌, ◌≢◌, ℕ, zero, suc, ◌<◌, List, [], ◌∷◌, ◌++◌, length, get_or, set, All, Option, refl, sym, ap, ◌∙◌, subst, ◌⊎◌, inl, inr, ⊎_elim, arith, length-set}
use Rattle.std.proofs.lemmas.List.Elements.{All-nil, All-cons, All-append}
use mathlib.Core.Logic.{dite}
use mathlib.Core.Option.{some, some-injective, some-ne-none}
use native.Mathlib.Decide.{ℕ_discrete}
use lib.ListN.{get_elem?}
use lib.Seq.{set-get_or}
use Rattle.atomic_table.specs.Table.{State, Me, keeps, stepped}
use Rattle.atomic_table.proofs.Lists.{at_set, set_here, set_else}
use Rattle.turn_lock.specs.declared.entry.Entry.{Entry}
use Rattle.turn_lock.specs.declared.view.SeatNumber.{SeatNumber}
use Rattle.turn_lock.specs.declared.view.SeatNumber.TheVariants.{SplitFrom, Known, Joined}
use Rattle.turn_lock.specs.declared.view.Stage.{Stage}
use Rattle.turn_lock.specs.declared.view.Stage.TheVariants.{Idle, HasTurn}
use Rattle.turn_lock.specs.declared.view.JoinedFront.TheVariants.{Of}
use Rattle.turn_lock.specs.declared.view.SeatView.{SeatView}
use Rattle.turn_lock.specs.declared.view.Counted.{Counted}
use Rattle.turn_lock.specs.History.{IsOfOther, GoesOnWithout}
use Rattle.turn_lock.specs.Rule.{FitsNumber, FitsStage, IsJoined, FitsView, OneHistory}
use Rattle.turn_lock.proofs.Fronts.{goes_more}

module _ {A : Type 0} where
  pub below : (vs : List A) (j : ℕ) (v : A) → get_elem? vs j ≡ some v → j < length vs
  below [] j v e = absurd (some-ne-none v (sym e))
  below (x ∷ xs) zero v e = omega arith
  below (x ∷ xs) (suc j) v e = let h = below xs j v e in omega arith

  pub at_end : (l : List A) (a b : A) (j : ℕ) → get_elem? (l ++ a ∷ []) j ≡ some b → (get_elem? l j ≡ some b) ⊎ ((j ≡ length l) × (a ≡ b))
  at_end [] a b zero e = inr (refl, some-injective a b e)
  at_end [] a b (suc j) e = absurd (some-ne-none b (sym e))
  at_end (x ∷ xs) a b zero e = inl e
  at_end (x ∷ xs) a b (suc j) e = elim (at_end xs a b j e) [ inl h ↦ inl h | inr h ↦ inr (ap suc h.0, h.1) ]

-- what holds of each view holds after one became another, if it holds of that
pub each_set : {X : Type 0} (F : ℕ → X → Type 0) (vs : List X) (id : ℕ) (w : X) → F id w → ((j : ℕ) (x : X) → j ≢ id → get_elem? vs j ≡ some x → F j x) → (j : ℕ) (x : X) → get_elem? (set vs id w) j ≡ some x → F j x
each_set {X} F vs id w mine others j x e = ⊎_elim (λ (t : (j ≡ id) × (w ≡ x)). subst (λ (y : ℕ × X). F y.0 y.1) (λ i. (sym t.0 i, t.1 i)) mine)
    (λ (t : (j ≢ id) × (get_elem? vs j ≡ some x)). others j x t.0 t.1) (at_set vs id j w x e)

module _ {C R : Type 0} where
  -- a seat without the turn is idle, whatever becomes of the turn
  pub other_fits : (history history' : List (Entry C R)) (turn holder turn' holder' j : ℕ) (st : Stage C R) → (turn ≡ 1 → j ≢ holder) → FitsStage history turn holder j st → FitsStage history' turn' holder' j st
  other_fits history history' turn holder turn' holder' j Idle other h = tt
  other_fits history history' turn holder turn' holder' j (HasTurn whole) other h = absurd (other h.0 h.1)

  pub number_more : (history front : List (Entry C R)) (j : ℕ) (n : SeatNumber) (e : Entry C R) → e.seat ≢ j → FitsNumber history front j n → FitsNumber (history ++ e ∷ []) front j n
  number_more history front j (SplitFrom n) e other h = (h.0, h.1, All-append (IsOfOther j) history (e ∷ []) h.2 (All-cons (IsOfOther j) e [] other (All-nil (IsOfOther j))))
  number_more history front j (Known n) e other h = (h.0, goes_more j front history e other h.1)
  number_more history front j Joined e other h = tt

-- ---- What is known of seats that were joined

module _ {C R : Type 0} where
  abbrev pub KnowsJoined : List (Entry C R) → List (SeatView C R) → SeatView C R → Type 0
  KnowsJoined history vs v = (other : ℕ) (front : List (Entry C R)) → v.joined ≡ Of other front → GoesOnWithout other front history × IsJoined vs other

  stays_joined : (vs : List (SeatView C R)) (id other : ℕ) (v w : SeatView C R) → get_elem? vs id ≡ some v → (v.number ≡ Joined → w.number ≡ Joined) → IsJoined vs other → IsJoined (set vs id w) other
  stays_joined vs id other v w at gone h = dite (ℕ_discrete other id)
      (λ is. (
        w,
        subst (λ j. get_elem? (set vs id w) j ≡ some w) (sym is) (set_here vs id w (below vs id v at)),
        gone (ap (λ (x : SeatView C R). x.number) (some-injective v h.0 (sym at ∙ (ap (get_elem? vs) (sym is) ∙ h.1))) ∙ h.2),
      ))
      (λ apart. (h.0, set_else vs id other w apart ∙ h.1, h.2))

  -- it holds of each view after one became another
  pub knows_joined : (history : List (Entry C R)) (vs : List (SeatView C R)) (id : ℕ) (v w : SeatView C R) → get_elem? vs id ≡ some v → (v.number ≡ Joined → w.number ≡ Joined) → KnowsJoined history vs w
      → ((j other : ℕ) (x : SeatView C R) (front : List (Entry C R)) → get_elem? vs j ≡ some x → x.joined ≡ Of other front → GoesOnWithout other front history × IsJoined vs other)
      → (j other : ℕ) (x : SeatView C R) (front : List (Entry C R)) → get_elem? (set vs id w) j ≡ some x → x.joined ≡ Of other front → GoesOnWithout other front history × IsJoined (set vs id w) other
  knows_joined history vs id v w at gone mine others j other x front e is = each_set (λ (j : ℕ) (x : SeatView C R). KnowsJoined history (set vs id w) x) vs id w
      (λ m f e. let h = mine m f e in (h.0, stays_joined vs id m v w at gone h.1))
      (λ j x _ here m f e. let h = others j m x f here e in (h.0, stays_joined vs id m v w at gone h.1)) j x e other front is

module _ {T C R : Type 0} (stands : T → List (Entry C R) → Type 0) where
  -- a step that changes no word, no slot and no stage
  unfoldable pub still : (s : State (Option (Counted T)) (SeatView C R)) (r : OneHistory stands s) (id : ℕ) (v w : SeatView C R) → get_elem? s.views id ≡ some v → FitsView r.history r.turn r.holder (length s.views) id w → w.stage ≡ v.stage
      → (v.number ≡ Joined → w.number ≡ Joined) → KnowsJoined r.history s.views w → OneHistory stands record { words = s.words; homes = s.homes; views = set s.views id w }
  still s r id v w at fits same gone knows = let long : length (set s.views id w) ≡ length s.views = length-set s.views id w in record {
    history = r.history;
    turn = r.turn;
    holder = r.holder;
    words = r.words;
    made = subst (λ n. All (λ (e : Entry C R). e.seat < n) r.history) (sym long) r.made;
    each = subst (λ n. (j : ℕ) (x : SeatView C R) → get_elem? (set s.views id w) j ≡ some x → FitsView r.history r.turn r.holder n j x) (sym long)
        (each_set (FitsView r.history r.turn r.holder (length s.views)) s.views id w fits (λ j x _. r.each j x));
    joined = knows_joined r.history s.views id v w at gone knows r.joined;
    free = r.free;
    taken = λ out. let h = r.taken out in (
      h.0,
      dite (ℕ_discrete r.holder id)
          (λ is. (
            w,
            subst (λ j. get_elem? (set s.views id w) j ≡ some w) (sym is) (set_here s.views id w (below s.views id v at)),
            same ∙ (ap (λ (x : SeatView C R). x.stage) (some-injective v h.1.0 (sym at ∙ (ap (get_elem? s.views) (sym is) ∙ h.1.1))) ∙ h.1.2),
          ))
          (λ other. (h.1.0, set_else s.views id r.holder w other ∙ h.1.1, h.1.2)),
    );
  }

  -- the same as a load of the word i
  pub loads : (s : State (Option (Counted T)) (SeatView C R)) (r : OneHistory stands s) (i id : ℕ) (me : Me (Option (Counted T)) (SeatView C R)) (w : SeatView C R) → get_elem? s.views id ≡ some me.0
      → FitsView r.history r.turn r.holder (length s.views) id w → w.stage ≡ me.0.stage → (me.0.number ≡ Joined → w.number ≡ Joined) → KnowsJoined r.history s.views w → OneHistory stands (stepped s i (get_or s.words i 0) id me.1 w keeps)
  loads s r i id me w at fits same gone knows = subst (λ (ws : List ℕ). OneHistory stands record { words = ws; homes = s.homes; views = set s.views id w }) (sym (set-get_or s.words i 0)) (still s r id me.0 w at fits same gone knows)

  pub turn_is : (s : State (Option (Counted T)) (SeatView C R)) (r : OneHistory stands s) → get_or s.words 0 0 ≡ r.turn
  turn_is s r = ap (λ ws. get_or ws 0 0) r.words

  pub count_is : (s : State (Option (Counted T)) (SeatView C R)) (r : OneHistory stands s) → get_or s.words 1 0 ≡ length r.history
  count_is s r = ap (λ ws. get_or ws 1 0) r.words
