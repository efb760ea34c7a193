-- Steps on the turn word: the turn is taken, or found taken, and freed again.
use Rattle.std.proofs.Common.{◌≡◌, ◌≢◌, ℕ, ◌<◌, ◌≤◌, eqb, List, [], ◌∷◌, length, get_or, set, All, Option, Some, refl, sym, ap, ◌∙◌, subst, arith, length-set}
use mathlib.Core.Option.{some, none, some-injective}
use mathlib.Core.Option as maybe
use lib.ListN.{get_elem?}
use prog.Atomic.{either}
use Rattle.atomic_table.specs.Table.{State, Me, Act, step, keeps, takes, gives, stepped, Valid, carried_after, Allows}
use Rattle.atomic_table.proofs.Lists.{set_here, exchanged}
use Rattle.turn_lock.specs.declared.entry.Entry.{Entry}
use Rattle.turn_lock.specs.declared.view.Stage.TheVariants.{Idle, HasTurn}
use Rattle.turn_lock.specs.declared.view.SeatView.{SeatView}
use Rattle.turn_lock.specs.declared.view.Counted.{Counted}
use Rattle.turn_lock.specs.History.{GoesOnWithout}
use Rattle.turn_lock.specs.Views.{with_turn, without_turn, found_taken}
use Rattle.turn_lock.specs.Rule.{FitsNumber, FitsStage, FitsView, OneHistory}
use Rattle.turn_lock.specs.Steps.{HasTaken, turn_taken, turn_freed, spent_turn_freed}
use Rattle.turn_lock.proofs.Rule.{below, each_set, other_fits, knows_joined, loads, turn_is}

module _ {T C R : Type 0} (stands : T → List (Entry C R) → Type 0) where
  abbrev V : Type 0
  V = SeatView C R

  abbrev S : Type 0
  S = Option (Counted T)

  abbrev M : Type 0
  M = Me S V

  abbrev Rule : State S V → Type 0
  Rule = OneHistory stands

  -- the turn word was 0: the seat has the turn, and the value in its slot
  out : (s : State S V) (r : Rule s) (id : ℕ) (me : M) (k : Counted T) → get_elem? s.views id ≡ some me.0 → r.turn ≡ 0 → Rule (stepped s 0 1 id me.1 (with_turn r.history me.0) (takes 0 (Some k)))
  out s r id me k at zero_turn = let v = me.0 in let f = r.each id v at in let w : V = with_turn r.history v in
      let long : length (set s.views id w) ≡ length s.views = length-set s.views id w in record {
        history = r.history;
        turn = 1;
        holder = id;
        words = ap (λ ws. set ws 0 1) r.words;
        made = subst (λ n. All (λ (e : Entry C R). e.seat < n) r.history) (sym long) r.made;
        each = subst (λ n. (j : ℕ) (x : V) → get_elem? (set s.views id w) j ≡ some x → FitsView r.history 1 id n j x) (sym long)
            (each_set (FitsView r.history 1 id (length s.views)) s.views id w
            record { front = f.front; noted = f.noted; alone = f.alone; number = f.number; stage = (refl, refl, refl) }
            (λ j x _ e. let g = r.each j x e in record {
              front = g.front;
              noted = g.noted;
              alone = g.alone;
              number = g.number;
              stage = other_fits r.history r.history r.turn r.holder 1 id j x.stage (λ one. absurd (omega arith)) g.stage;
            }));
        joined = knows_joined r.history s.views id v w at (λ h. h) (λ m k e. r.joined id m v k at e) r.joined;
        free = λ z. absurd (omega arith);
        taken = λ _. (refl, (w, set_here s.views id w (below s.views id v at), refl));
      }

  -- what it knows then
  knows : (s : State S V) (r : Rule s) (id : ℕ) (me : M) (k : Counted T) → get_elem? s.views id ≡ some me.0 → stands k.value r.history → k.calls ≡ length r.history → HasTaken stands me (with_turn r.history me.0, (0, Some k) ∷ me.1)
  knows s r id me k at value calls = let v = me.0 in let f = r.each id v at in record {
    history = r.history;
    counted = k;
    view = refl;
    slot = refl;
    value = value;
    calls = calls;
    noted = f.noted;
    goes_on = λ n e. let p = subst (FitsNumber r.history v.front id) e f.number in subst (λ j. GoesOnWithout j v.front r.history) (sym p.0) p.1;
  }

  -- only another seat can have the turn of a seat that is idle
  not_alone : (s : State S V) (r : Rule s) (id : ℕ) (v : V) → get_elem? s.views id ≡ some v → v.stage ≡ Idle → r.turn ≢ 0 → v.splits ≢ 0
  not_alone s r id v at idle taken never =
      let t = r.taken taken in let f = r.each id v at in let one : length s.views ≡ 1 = f.alone never in
      let a = below s.views id v at in let b = below s.views r.holder t.1.0 t.1.1 in
      let same : r.holder ≡ id = omega arith in
      let who : v ≡ t.1.0 = some-injective v t.1.0 (sym at ∙ (ap (get_elem? s.views) (sym same) ∙ t.1.1)) in
      cc (idle, ap (λ (x : V). x.stage) who, t.1.2)

  pub takes_turn : (slots id : ℕ) (me : M) → me.0.stage ≡ Idle → Allows Rule slots id me 0 (λ n. either (eqb n 0) 1 n) (turn_taken stands (step slots 0 0 1 none) me)
  takes_turn slots id me idle s r _ at _ = let v = me.0 in let f = r.each id v at in let n : ℕ = get_or s.words 0 0 in let is : n ≡ r.turn = turn_is stands s r in
      exchanged n 0 1 (λ y. (w : V) × (a : Act S) × Valid s.homes me.1 a × Rule (stepped s 0 y id me.1 w a) × turn_taken stands (step slots 0 0 1 none) me n (w, carried_after me.1 a))
      (λ hit. let zero_turn : r.turn ≡ 0 = sym is ∙ hit in let h = r.free zero_turn in let k : Counted T = h.0 in (
        with_turn r.history v,
        takes 0 (Some k),
        ap (λ hs. get_elem? hs 0) h.1,
        out s r id me k at zero_turn,
        (λ _. knows s r id me k at h.2 h.3, λ ne. absurd (ne hit)),
      ))
      (λ miss. let w : V = found_taken v in (
        w,
        keeps,
        tt,
        loads stands s r 0 id me w at record { front = f.front; noted = f.noted; alone = f.alone; number = f.number; stage = f.stage } refl (λ h. h) (λ m k e. r.joined id m v k at e),
        (
          λ hit. absurd (miss hit),
          λ _. record { view = refl; slot = refl; split = not_alone s r id v at idle (λ z. miss (is ∙ z)) },
        ),
      ))

  one_slot : (k : Counted T) (hs : List (maybe.Option S)) → length hs ≡ 1 → set hs 0 (some (Some k)) ≡ some (Some k) ∷ []
  one_slot k [] e = absurd (omega arith)
  one_slot k (h ∷ []) e = refl
  one_slot k (h ∷ i ∷ hs) e = absurd (omega arith)

  -- the value is back, the turn is free, and the seat has noted n
  back : (s : State S V) (r : Rule s) (id : ℕ) (me : M) (k : Counted T) (history : List (Entry C R)) (n : ℕ) → length s.homes ≡ 1 → get_elem? s.views id ≡ some me.0 → me.0.stage ≡ HasTurn history → me.1 ≡ (0, Some k) ∷ []
      → stands k.value history → k.calls ≡ length history → n ≤ length history → Rule (stepped s 0 0 id me.1 (without_turn n me.0) gives)
  back s r id me k history n one at has slot value calls noted = let v = me.0 in let f = r.each id v at in let w : V = without_turn n v in
      let stage = subst (FitsStage r.history r.turn r.holder id) has f.stage in let all : history ≡ r.history = stage.2 in
      let long : length (set s.views id w) ≡ length s.views = length-set s.views id w in
      subst (λ cs. Rule (stepped s 0 0 id cs w gives)) (sym slot) record {
        history = r.history;
        turn = 0;
        holder = id;
        words = ap (λ ws. set ws 0 0) r.words;
        made = subst (λ n. All (λ (e : Entry C R). e.seat < n) r.history) (sym long) r.made;
        each = subst (λ n. (j : ℕ) (x : V) → get_elem? (set s.views id w) j ≡ some x → FitsView r.history 0 id n j x) (sym long)
            (each_set (FitsView r.history 0 id (length s.views)) s.views id w
            record { front = f.front; noted = subst (λ (l : List (Entry C R)). n ≤ length l) all noted; alone = f.alone; number = f.number; stage = tt }
            (λ j x other e. let g = r.each j x e in record {
              front = g.front;
              noted = g.noted;
              alone = g.alone;
              number = g.number;
              stage = other_fits r.history r.history r.turn r.holder 0 id j x.stage (λ _ is. other (is ∙ sym stage.1)) g.stage;
            }));
        joined = knows_joined r.history s.views id v w at (λ h. h) (λ m k e. r.joined id m v k at e) r.joined;
        free = λ _. (k, one_slot k s.homes one, subst (stands k.value) all value, calls ∙ ap length all);
        taken = λ ne. absurd (ne refl);
      }

  pub frees_turn : (slots id : ℕ) (me : M) (k : Counted T) (history : List (Entry C R)) → slots ≡ 1 → me.0.stage ≡ HasTurn history → me.1 ≡ (0, Some k) ∷ [] → stands k.value history → k.calls ≡ length history
      → Allows Rule slots id me 0 (λ _. 0) (turn_freed stands (step slots 0 0 0 none) me)
  frees_turn slots id me k history one has slot value calls s r long at _ = let f = r.each id me.0 at in let stage = subst (FitsStage r.history r.turn r.holder id) has f.stage in (
    without_turn me.0.noted me.0,
    gives,
    tt,
    back s r id me k history me.0.noted (long ∙ one) at has slot value calls (subst (λ (l : List (Entry C R)). me.0.noted ≤ length l) (sym stage.2) f.noted),
    (refl, ap (λ cs. carried_after cs gives) slot),
  )

  pub frees_spent_turn : (slots id : ℕ) (me : M) (k : Counted T) (history : List (Entry C R)) → slots ≡ 1 → me.0.stage ≡ HasTurn history → me.1 ≡ (0, Some k) ∷ [] → stands k.value history → k.calls ≡ length history
      → Allows Rule slots id me 0 (λ _. 0) (spent_turn_freed stands (step slots 0 0 0 none) me)
  frees_spent_turn slots id me k history one has slot value calls s r long at _ = (
    without_turn (length history) me.0,
    gives,
    tt,
    back s r id me k history (length history) (long ∙ one) at has slot value calls (omega arith),
    (
      λ other e. let same : HasTurn history ≡ HasTurn other = sym has ∙ e in let w : history ≡ other = cc same in ap (λ (l : List (Entry C R)). without_turn (length l) me.0) w,
      ap (λ cs. carried_after cs gives) slot,
    ),
  )
