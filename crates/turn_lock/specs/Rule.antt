-- What holds of a table between any two atomic steps of any threads.
use Rattle.std.specs.Prelude.{◌≡◌, ◌≢◌, ℕ, ◌<◌, ◌≤◌, List, [], ◌∷◌, length, All, Option, Some}
use mathlib.Core.Option.{some}
use mathlib.Core.List.{IsPrefix}
use lib.ListN.{get_elem?}
use Rattle.atomic_table.specs.Table.{State}
use Rattle.turn_lock.specs.declared.entry.Entry.{Entry}
use Rattle.turn_lock.specs.declared.view.SeatNumber.{SeatNumber}
use Rattle.turn_lock.specs.declared.view.SeatNumber.TheVariants.{SplitFrom, Known, Joined}
use Rattle.turn_lock.specs.declared.view.Stage.{Stage}
use Rattle.turn_lock.specs.declared.view.Stage.TheVariants.{Idle, HasTurn}
use Rattle.turn_lock.specs.declared.view.JoinedFront.TheVariants.{Of}
use Rattle.turn_lock.specs.declared.view.SeatView.{SeatView}
use Rattle.turn_lock.specs.declared.view.Counted.{Counted}
use Rattle.turn_lock.specs.History.{IsEarlier, IsOfOther, GoesOnWithout}

module _ {C R : Type 0} where
  -- The place of a seat among the views is its number, once it knows it. Behind its front no entry has its number.
  abbrev pub FitsNumber : List (Entry C R) → List (Entry C R) → ℕ → SeatNumber → Type 0
  FitsNumber history front place (SplitFrom n) = (n < place) × All (IsEarlier place) front × All (IsOfOther place) history
  FitsNumber history front place (Known n) = (n ≡ place) × GoesOnWithout place front history
  FitsNumber history front place Joined = Unit {0}

  -- only the holder may have the turn, where the turn word is 1
  abbrev pub FitsStage : List (Entry C R) → ℕ → ℕ → ℕ → Stage C R → Type 0
  FitsStage history turn holder place Idle = Unit {0}
  FitsStage history turn holder place (HasTurn known) = (turn ≡ 1) × (place ≡ holder) × (known ≡ history)

  -- the seat at this place was joined into another
  abbrev pub IsJoined : List (SeatView C R) → ℕ → Type 0
  IsJoined views place = (v : SeatView C R) × (get_elem? views place ≡ some v) × (v.number ≡ Joined)

  -- what the view of the seat at this place shows, where there are so many seats
  pub record FitsView (history : List (Entry C R)) (turn holder count place : ℕ) (v : SeatView C R) : Type 0 where
    pub front : IsPrefix v.front history
    pub noted : v.noted ≤ length history
    pub alone : v.splits ≡ 0 → count ≡ 1
    pub number : FitsNumber history v.front place v.number
    pub stage : FitsStage history turn holder place v.stage

module _ {T C R : Type 0} (stands : T → List (Entry C R) → Type 0) where
  -- the slot has a value that stands for the history, beside its length
  abbrev pub HasValue : State (Option (Counted T)) (SeatView C R) → List (Entry C R) → Type 0
  HasValue s history = (k : Counted T) × (s.homes ≡ some (Some k) ∷ []) × stands k.value history × (k.calls ≡ length history)

  pub record OneHistory (s : State (Option (Counted T)) (SeatView C R)) : Type 0 where
    pub history : List (Entry C R)
    -- the turn word, and the place of the seat that has the turn where one has it
    pub turn : ℕ
    pub holder : ℕ
    -- the other word is the length of the history
    pub words : s.words ≡ turn ∷ length history ∷ []
    pub made : All (λ e. e.seat < length s.views) history
    pub each : (place : ℕ) (v : SeatView C R) → get_elem? s.views place ≡ some v → FitsView history turn holder (length s.views) place v
    -- no entry comes of a seat that was joined into another
    pub joined : (place other : ℕ) (v : SeatView C R) (front : List (Entry C R)) → get_elem? s.views place ≡ some v → v.joined ≡ Of other front → GoesOnWithout other front history × IsJoined s.views other
    pub free : turn ≡ 0 → HasValue s history
    pub taken : turn ≢ 0 → (turn ≡ 1) × ((v : SeatView C R) × (get_elem? s.views holder ≡ some v) × (v.stage ≡ HasTurn history))
