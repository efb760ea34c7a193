-- What clauses say of a seat and its table.
use Rattle.std.specs.Prelude.{◌≡◌, ◌≢◌, ℕ, ◌+◌, ◌-◌, ◌^◌, ◌<◌, List, [], ◌∷◌, ◌++◌, length, All}
use Rattle.turn_lock.specs.declared.entry.Entry.{Entry}
use Rattle.turn_lock.specs.declared.table.TurnSeat.{TurnSeat}
use Rattle.turn_lock.specs.declared.table.TurnTable.{TurnTable}
use Rattle.turn_lock.specs.declared.table.Attempt.{Attempt}
use Rattle.turn_lock.specs.declared.table.Attempt.TheVariants.{Done, Busy, Spent}
use Rattle.turn_lock.specs.declared.turned.Turned.{Ghosts}
use Rattle.turn_lock.specs.History.{entry, IsOfOther}
use Rattle.turn_lock.specs.Views.{number_in}

module _ {T C R : Type 0} {G : Ghosts T C R} where
  -- the history that the seat has seen
  abbrev pub front_of : TurnSeat T C R G → List (Entry C R)
  front_of s = s.seat.me.0.front

  -- the greatest length of the history that it noted
  abbrev pub noted_of : TurnSeat T C R G → ℕ
  noted_of s = s.seat.me.0.noted

  -- how many seats of the table were made before it
  abbrev pub number_of : TurnSeat T C R G → ℕ
  number_of s = number_in s.seat.me.0.number

  -- its steps that found the turn taken
  abbrev pub busy_of : TurnSeat T C R G → ℕ
  busy_of s = s.seat.me.0.busy

  -- how often it was split, and one more where it was split off itself
  abbrev pub splits_of : TurnSeat T C R G → ℕ
  splits_of s = s.seat.me.0.splits

  -- it is a seat of this table
  abbrev pub IsSeatOf : TurnTable T C R → TurnSeat T C R G → Type 0
  IsSeatOf t s = s.seat.table_id ≡ t.table.shared.table_id

  pub record IsSameSeat (s s' : TurnSeat T C R G) : Type 0 where
    pub number : number_of s' ≡ number_of s
    pub splits : splits_of s' ≡ splits_of s

module _ {T C R : Type 0} {G : Ghosts T C R} (call : C) where
  -- The front goes on with entries of other seats, and then with this call. The value stands for all of it.
  pub record IsDone (s s' : TurnSeat T C R G) (reply : R) : Type 0 where
    pub others : List (Entry C R)
    pub front : front_of s' ≡ front_of s ++ others ++ entry (number_of s) call reply ∷ []
    pub apart : All (IsOfOther (number_of s)) others
    pub value : T
    pub stands_for : G.stands value (front_of s')
    pub noted : noted_of s' ≡ noted_of s
    pub after_note : noted_of s < length (front_of s')
    pub room : length (front_of s') < 2 ^ 64
    pub busy : busy_of s' ≡ busy_of s

  -- the seat's own step found the turn taken, and it isn't the only seat
  pub record IsBusy (s s' : TurnSeat T C R G) (back : C) : Type 0 where
    pub back_is : back ≡ call
    pub front : front_of s' ≡ front_of s
    pub noted : noted_of s' ≡ noted_of s
    pub busy : busy_of s' ≡ busy_of s + 1
    pub split : splits_of s ≢ 0

  -- the history has as many calls as can be counted
  pub record IsSpent (s s' : TurnSeat T C R G) (back : C) : Type 0 where
    pub back_is : back ≡ call
    pub front : front_of s' ≡ front_of s
    pub noted : noted_of s' ≡ 2 ^ 64 - 1
    pub busy : busy_of s' ≡ busy_of s

  abbrev pub Answers : TurnSeat T C R G → TurnSeat T C R G → Attempt T C R → Type 0
  Answers s s' (Done reply) = IsDone s s' reply
  Answers s s' (Busy back) = IsBusy s s' back
  Answers s s' (Spent back) = IsSpent s s' back
