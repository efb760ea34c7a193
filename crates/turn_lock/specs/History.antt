-- The history of a table, oldest entry first, and beginnings of it.
use Rattle.std.specs.Prelude.{◌≡◌, ◌≢◌, ℕ, ◌<◌, List, ◌++◌, ◌==◌, All, filter, ◌⊎◌}
use Rattle.turn_lock.specs.declared.entry.Entry.{Entry}

module _ {C R : Type 0} where
  abbrev pub entry : ℕ → C → R → Entry C R
  entry seat call reply = record { seat = seat; call = call; reply = reply }

  abbrev pub IsOfOther : ℕ → Entry C R → Type 0
  IsOfOther seat e = e.seat ≢ seat

  abbrev pub IsEarlier : ℕ → Entry C R → Type 0
  IsEarlier seat e = e.seat < seat

  -- the one goes on to the other with entries of other seats alone
  abbrev pub GoesOnWithout : ℕ → List (Entry C R) → List (Entry C R) → Type 0
  GoesOnWithout seat before after = (rest : List (Entry C R)) × (before ++ rest ≡ after) × All (IsOfOther seat) rest

  -- The longer of two fronts, which the other begins: behind either seat's front it has no entry of that seat.
  pub record IsLonger (seat other : ℕ) (first second longer : List (Entry C R)) : Type 0 where
    pub either : (longer ≡ first) ⊎ (longer ≡ second)
    pub first_goes_on : GoesOnWithout seat first longer
    pub second_goes_on : GoesOnWithout other second longer

  abbrev pub own_entries : ℕ → List (Entry C R) → List (Entry C R)
  own_entries seat history = filter (λ e. e.seat == seat) history

  -- a front went on, and of the seat's own entries there are these in between, in this order
  pub record Made (seat : ℕ) (before after own : List (Entry C R)) : Type 0 where
    pub rest : List (Entry C R)
    pub goes_on : before ++ rest ≡ after
    pub own_are : own_entries seat rest ≡ own
