-- What a seat knows, and how its steps change that.
use Rattle.std.specs.Prelude.{ℕ, ◌+◌, max, List, [], ◌∷◌}
use Rattle.std.specs.Coded.{×_prop, Unit-prop}
use mathlib.Core.HLevel.{⊥_prop}
use Rattle.atomic_table.specs.Table.{Me}
use Rattle.turn_lock.specs.declared.entry.Entry.{Entry}
use Rattle.turn_lock.specs.declared.view.SeatNumber.{SeatNumber}
use Rattle.turn_lock.specs.declared.view.SeatNumber.TheVariants.{SplitFrom, Known, Joined}
use Rattle.turn_lock.specs.declared.view.Stage.{Stage}
use Rattle.turn_lock.specs.declared.view.Stage.TheVariants.{Idle, HasTurn}
use Rattle.turn_lock.specs.declared.view.JoinedFront.{JoinedFront}
use Rattle.turn_lock.specs.declared.view.JoinedFront.TheVariants.{Compared, Of}
use Rattle.turn_lock.specs.declared.view.SeatView.{SeatView}

-- (one that isn't known yet is that of the seat that was split)
abbrev pub number_in : SeatNumber → ℕ
number_in (SplitFrom n) = n
number_in (Known n) = n
number_in Joined = 0

module _ {C R : Type 0} where
  abbrev pub view : SeatNumber → List (Entry C R) → JoinedFront C R → ℕ → ℕ → ℕ → Stage C R → SeatView C R
  view n f j k b s st = record { number = n; front = f; joined = j; noted = k; busy = b; splits = s; stage = st }

  abbrev pub first_view : SeatView C R
  first_view = view (Known 0) [] Compared 0 0 0 Idle

  abbrev pub spent_view : SeatView C R
  spent_view = view Joined [] Compared 0 0 1 Idle

  abbrev pub with_turn : List (Entry C R) → SeatView C R → SeatView C R
  with_turn history v = view v.number v.front v.joined v.noted v.busy v.splits (HasTurn history)

  abbrev pub without_turn : ℕ → SeatView C R → SeatView C R
  without_turn noted v = view v.number v.front v.joined noted v.busy v.splits Idle

  abbrev pub with_entry : List (Entry C R) → SeatView C R → SeatView C R
  with_entry history v = view v.number history v.joined v.noted v.busy v.splits (HasTurn history)

  abbrev pub found_taken : SeatView C R → SeatView C R
  found_taken v = view v.number v.front v.joined v.noted (v.busy + 1) v.splits v.stage

  -- of the seat that was split, and of the new one
  abbrev pub after_split : SeatView C R → SeatView C R
  after_split v = view v.number v.front v.joined v.noted v.busy (v.splits + 1) v.stage

  abbrev pub split_off : SeatView C R → SeatView C R
  split_off v = view (SplitFrom (number_in v.number)) v.front Compared v.noted 0 1 Idle

  abbrev pub with_number : SeatNumber → SeatView C R → SeatView C R
  with_number n v = view n v.front v.joined v.noted v.busy v.splits v.stage

  abbrev pub joined_view : SeatView C R → SeatView C R → SeatView C R
  joined_view v w = view v.number v.front (Of (number_in w.number) w.front) (max v.noted w.noted) v.busy v.splits v.stage

  abbrev pub with_front : List (Entry C R) → SeatView C R → SeatView C R
  with_front f v = view v.number f Compared v.noted v.busy v.splits v.stage

  abbrev pub with_noted : ℕ → SeatView C R → SeatView C R
  with_noted noted v = view v.number v.front v.joined noted v.busy v.splits v.stage

-- ---- A seat between two calls knows its number, and has neither the turn nor the slot. Each of these facts holds in one way at most.

abbrev pub IsKnown : SeatNumber → Type 0
IsKnown (Known n) = Unit {0}
IsKnown _ = ⊥

abbrev pub IsNil : {A : Type 0} → List A → Type 0
IsNil [] = Unit {0}
IsNil (x ∷ xs) = ⊥

IsKnown-prop : (n : SeatNumber) → IsProp (IsKnown n)
IsKnown-prop (SplitFrom n) = ⊥_prop
IsKnown-prop (Known n) = Unit-prop
IsKnown-prop Joined = ⊥_prop

IsNil-prop : {A : Type 0} → (xs : List A) → IsProp (IsNil xs)
IsNil-prop [] = Unit-prop
IsNil-prop (x ∷ xs) = ⊥_prop

module _ {C R : Type 0} where
  abbrev pub IsIdle : Stage C R → Type 0
  IsIdle Idle = Unit {0}
  IsIdle (HasTurn history) = ⊥

  IsIdle-prop : (st : Stage C R) → IsProp (IsIdle st)
  IsIdle-prop Idle = Unit-prop
  IsIdle-prop (HasTurn history) = ⊥_prop

  abbrev pub IsReady : {S : Type 0} → Me S (SeatView C R) → Type 0
  IsReady m = IsKnown m.0.number × (IsIdle m.0.stage × IsNil m.1)

  pub IsReady-prop : {S : Type 0} → (m : Me S (SeatView C R)) → IsProp (IsReady m)
  IsReady-prop m = ×_prop (IsKnown-prop m.0.number) (×_prop (IsIdle-prop m.0.stage) (IsNil-prop m.1))
