-- What each atomic step tells the seat that makes it. m is the seat before, with its view and its slot, n the word found, m' the seat after.
use Rattle.std.specs.Prelude.{◌≡◌, ◌≢◌, ℕ, ◌<◌, ◌≤◌, List, [], ◌∷◌, ◌++◌, length, All, Option, Some}
use Rattle.atomic_table.specs.Table.{Me, Step}
use Rattle.turn_lock.specs.declared.entry.Entry.{Entry}
use Rattle.turn_lock.specs.declared.view.SeatNumber.TheVariants.{SplitFrom, Known}
use Rattle.turn_lock.specs.declared.view.Stage.TheVariants.{HasTurn}
use Rattle.turn_lock.specs.declared.view.JoinedFront.TheVariants.{Of}
use Rattle.turn_lock.specs.declared.view.SeatView.{SeatView}
use Rattle.turn_lock.specs.declared.view.Counted.{Counted}
use Rattle.turn_lock.specs.History.{entry, IsEarlier, GoesOnWithout, IsLonger}
use Rattle.turn_lock.specs.Views.{with_turn, without_turn, with_entry, found_taken, with_number, with_front, with_noted}

module _ {T C R : Type 0} (stands : T → List (Entry C R) → Type 0) where
  abbrev pub Seat : Type 0
  Seat = Me (Option (Counted T)) (SeatView C R)

  abbrev pub Slot : Type 0
  Slot = Option (Counted T)

  -- the seat has the turn and the slot, and knows the history
  pub record HasTaken (m m' : Seat) : Type 0 where
    pub history : List (Entry C R)
    pub counted : Counted T
    pub view : m'.0 ≡ with_turn history m.0
    pub slot : m'.1 ≡ (0, Some counted) ∷ m.1
    pub value : stands counted.value history
    pub calls : counted.calls ≡ length history
    pub noted : m.0.noted ≤ length history
    pub goes_on : (n : ℕ) → m.0.number ≡ Known n → GoesOnWithout n m.0.front history

  -- the turn was taken, and it isn't the only seat
  pub record FoundTaken (m m' : Seat) : Type 0 where
    pub view : m'.0 ≡ found_taken m.0
    pub slot : m'.1 ≡ m.1
    pub split : m.0.splits ≢ 0

  abbrev pub turn_taken : Step Slot → Seat → ℕ → Seat → Type 0
  turn_taken st m n m' = (n ≡ 0 → HasTaken m m') × (n ≢ 0 → FoundTaken m m')

  -- the entry stands at the old count
  abbrev pub entry_added : Option C → Option R → Step Slot → Seat → ℕ → Seat → Type 0
  entry_added call reply st m n m' = (m'.1 ≡ m.1)
      × ((history : List (Entry C R)) (seat : ℕ) (c : C) (r : R) → m.0.stage ≡ HasTurn history → m.0.number ≡ Known seat → call ≡ Some c → reply ≡ Some r
      → (n ≡ length history) × (m'.0 ≡ with_entry (history ++ entry seat c r ∷ []) m.0))

  abbrev pub turn_freed : Step Slot → Seat → ℕ → Seat → Type 0
  turn_freed st m n m' = (m'.0 ≡ without_turn m.0.noted m.0) × (m'.1 ≡ [])

  -- the length of the history is noted, since there is no call more
  abbrev pub spent_turn_freed : Step Slot → Seat → ℕ → Seat → Type 0
  spent_turn_freed st m n m' = ((history : List (Entry C R)) → m.0.stage ≡ HasTurn history → m'.0 ≡ without_turn (length history) m.0) × (m'.1 ≡ [])

  -- it is above that of the seat that was split, and above all in the front
  abbrev pub number_learned : Step Slot → Seat → ℕ → Seat → Type 0
  number_learned st m n m' = (m'.1 ≡ m.1)
      × ((from : ℕ) → m.0.number ≡ SplitFrom from → (seat : ℕ) × (m'.0 ≡ with_number (Known seat) m.0) × (from < seat) × All (IsEarlier seat) m.0.front)

  abbrev pub fronts_compared : Step Slot → Seat → ℕ → Seat → Type 0
  fronts_compared st m n m' = (m'.1 ≡ m.1)
      × ((seat other : ℕ) (front : List (Entry C R)) → m.0.number ≡ Known seat → m.0.joined ≡ Of other front
      → (longer : List (Entry C R)) × (m'.0 ≡ with_front longer m.0) × IsLonger seat other m.0.front front longer)

  abbrev pub length_noted : Step Slot → Seat → ℕ → Seat → Type 0
  length_noted st m n m' = (m'.1 ≡ m.1) × (m'.0 ≡ with_noted n m.0) × (m.0.noted ≤ n) × (length m.0.front ≤ n)
