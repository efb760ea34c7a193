-- A seat in the middle of an attempt: it has the turn, and the value is out.
use Rattle.std.proofs.Common.{◌≡◌, ◌≤◌, List, [], ◌∷◌, length, Option, Some, None, sym, ap, ◌∙◌, subst}
use Rattle.atomic_table.specs.Table.{Me, rest}
use Rattle.turn_lock.specs.declared.entry.Entry.{Entry}
use Rattle.turn_lock.specs.declared.view.SeatNumber.TheVariants.{Known}
use Rattle.turn_lock.specs.declared.view.Stage.TheVariants.{HasTurn}
use Rattle.turn_lock.specs.declared.view.SeatView.{SeatView}
use Rattle.turn_lock.specs.declared.view.Counted.{Counted}
use Rattle.turn_lock.specs.History.{GoesOnWithout}
use Rattle.turn_lock.specs.Views.{IsReady, number_in, with_turn}
use Rattle.turn_lock.specs.Steps.{HasTaken}
use Rattle.turn_lock.proofs.Ready.{number_of_ready, nil_of_ready, slot_is}

module _ {T C R : Type 0} (stands : T → List (Entry C R) → Type 0) where
  -- the value was in the slot, which is empty now
  pub record HasOut (m m' : Me (Option (Counted T)) (SeatView C R)) (counted : Counted T) : Type 0 where
    pub history : List (Entry C R)
    pub view : m'.0 ≡ with_turn history m.0
    pub stage : m'.0.stage ≡ HasTurn history
    pub number : m'.0.number ≡ Known (number_in m.0.number)
    pub slot : m'.1 ≡ (0, None) ∷ []
    pub value : stands counted.value history
    pub calls : counted.calls ≡ length history
    pub noted : m.0.noted ≤ length history
    pub goes_on : GoesOnWithout (number_in m.0.number) m.0.front history

  pub has_out : (m taken m' : Me (Option (Counted T)) (SeatView C R)) (found : Option (Counted T)) (counted : Counted T) → IsReady m → HasTaken stands m taken
      → taken.1 ≡ (0, found) ∷ rest taken.1 → m' ≡ (taken.0, (0, None) ∷ rest taken.1) → found ≡ Some counted → HasOut m m' counted
  has_out m taken m' found counted ready got was is some =
      let same : counted ≡ got.counted = slot_is taken.1 (rest taken.1) m.1 found got.counted counted was got.slot some in
      let known = number_of_ready m.0.number ready.0 in
      let view : m'.0 ≡ with_turn got.history m.0 = ap (λ x. x.0) is ∙ got.view in record {
        history = got.history;
        view = view;
        stage = ap (λ v. v.stage) view;
        number = ap (λ v. v.number) view ∙ known;
        slot = ap (λ x. x.1) is ∙ ap (λ l. (0, None) ∷ l) (ap rest got.slot ∙ nil_of_ready m.1 ready.1.1);
        value = subst (λ k. stands k.value got.history) (sym same) got.value;
        calls = ap (λ k. k.calls) same ∙ got.calls;
        noted = got.noted;
        goes_on = got.goes_on (number_in m.0.number) known;
      }
