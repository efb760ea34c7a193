-- The dynamic table: entries, newest first, and the size that they may have.
use Rattle.std.specs.Prelude.{ℕ, ◌≡◌, ◌+◌, ◌-◌, ◌≤◌, nat_lt, List, [], ◌∷◌, length, if◌then◌else◌}
use Rattle.ext_msgs.specs.declared.lists.Field.{Field}

pub record TableState : Type 0 where
  pub entries : List Field
  pub limit : ℕ

abbrev pub size : Field → ℕ
size f = length f.name + length f.value + 32

-- the sizes of fields
abbrev pub total : List Field → ℕ
total [] = 0
total (f ∷ fs) = size f + total fs

-- the bytes of fields
abbrev pub kept : List Field → ℕ
kept [] = 0
kept (f ∷ fs) = length f.name + length f.value + kept fs

-- the entries, newest first, as far as they fit
unfoldable pub cut : ℕ → List Field → List Field
cut room [] = []
cut room (e ∷ es) = if nat_lt room (size e) then [] else e ∷ cut (room - size e) es

abbrev pub added : Field → TableState → TableState
added f t = record { entries = cut t.limit (f ∷ t.entries); limit = t.limit }

abbrev pub resized : ℕ → TableState → TableState
resized limit t = record { entries = cut limit t.entries; limit = limit }

-- entries, their size and its limit
pub record IsTable (entries : List Field) (size limit : ℕ) : Type 0 where
  pub sum : size ≡ total entries
  pub fits : size ≤ limit
  pub low : limit ≤ 4096
