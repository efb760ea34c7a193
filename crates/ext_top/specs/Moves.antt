-- What a run reads and writes.
use Rattle.std.specs.Prelude.{ℕ, ◌≢◌, ◌≡◌, ◌-◌, ◌<◌, ◌⊎◌, min, List, [], ◌∷◌, ◌++◌, length, take, Option}
use Rattle.std.specs.Io.KnownBytes.{Appends, Consumes, IsAtEnd}
use Rattle.std.specs.List.{All}

-- the greatest length of a line in bytes, with its line feed
abbrev pub line_limit : ℕ
line_limit = 4259841

-- the greatest length of a trace in bytes
abbrev pub trace_limit : ℕ
trace_limit = 1073741824

-- how many bytes a line of a trace may have, with its line feed, behind so many bytes
abbrev pub room : ℕ → ℕ
room before = min line_limit (trace_limit - before)

-- a line holds no line feed
abbrev pub IsLine : List ℕ → Type 0
IsLine line = All (λ b. b ≢ 10) line

-- and has at most so many bytes with the one behind it
pub record IsShortLine (most : ℕ) (line : List ℕ) : Type 0 where
  pub plain : IsLine line
  pub short : length line < most

-- some bytes were read
abbrev pub ReadsSome : Option (List ℕ) → Option (List ℕ) → Type 0
ReadsSome old new = (bytes : List ℕ) × Consumes old new bytes

-- No line was read: the source ended before a line feed, or none stands among the bytes that the line may have.
pub record ReadsNone (most : ℕ) (old new : Option (List ℕ)) : Type 0 where
  pub bytes : List ℕ
  pub read : Consumes old new bytes
  pub plain : IsLine bytes
  pub why : IsAtEnd new ⊎ (length bytes ≡ most)

-- A line was read, with its line feed.
pub record ReadsLine (most : ℕ) (old new : Option (List ℕ)) (line : List ℕ) : Type 0 where
  pub read : Consumes old new (line ++ 10 ∷ [])
  pub is_line : IsShortLine most line

-- the first so many bytes of a text were written
abbrev pub WritesSome : Option (List ℕ) → Option (List ℕ) → List ℕ → Type 0
WritesSome old new text = (n : ℕ) × Appends old new (take n text)
