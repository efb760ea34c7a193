-- Which bytes of a head or of a trailer section are looked at, and where its lines end.
use Rattle.std.specs.Prelude.{ℕ, zero, suc, ◌≡◌, ◌≤◌, Bool, ◌&&◌, ◌||◌, if◌then◌else◌, List, [], ◌∷◌, length, take, drop, ◌==◌}
use Rattle.http_model.specs.Reading.{Reading, Whole, Bad, Fault}
use Rattle.http_model.specs.Lines.{line, first_line, begins_with_lf, begins_field}
use Rattle.http_model.specs.Heads.{field_limit}

-- the place behind the n-th line feed, or the length where there are fewer
unfoldable pub lines_len : ℕ → List ℕ → ℕ
lines_len n [] = 0
lines_len zero (b ∷ s) = 0
lines_len (suc n) (b ∷ s) = suc (lines_len (if b == 10 then n else suc n) s)

-- a field begins behind as many lines as there may be fields
unfoldable pub is_crowded : List ℕ → Bool
is_crowded s = begins_field (drop (lines_len field_limit s) s)

-- the bytes of a section before a field too many
unfoldable pub section_seen : List ℕ → List ℕ
section_seen s = if is_crowded s then take (lines_len field_limit s) s else s

-- the byte b, before s, is of an empty line's end
abbrev pub is_empty_end : ℕ → List ℕ → Bool
is_empty_end b s = b == 10 || (b == 13 && begins_with_lf s)

-- the line ends before the n-th byte
pub record IsLineEnd (bytes : List ℕ) (n : ℕ) : Type 0 where
  pub in_range : n ≤ length bytes
  pub first : List ℕ
  pub reads : line bytes ≡ Whole first (drop n bytes)

-- the same of the first line that isn't empty
pub record IsFirstLineEnd (bytes : List ℕ) (n : ℕ) : Type 0 where
  pub in_range : n ≤ length bytes
  pub first : List ℕ
  pub reads : first_line bytes ≡ Whole first (drop n bytes)

-- no fault but this one
abbrev pub Only : {A : Type 0} → Fault → Reading A → Type 0
Only bad (Bad f) = f ≡ bad
Only bad _ = Unit {0}
