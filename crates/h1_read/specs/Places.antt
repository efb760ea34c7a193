-- Where the bytes of an unfinished head or section end, byte by byte.
use Rattle.std.specs.Prelude.{ℕ, ◌≡◌, ◌<◌, ◌≤◌, ◌+◌, ◌-◌, Bool, true, false, if◌then◌else◌, List, [], ◌∷◌, length, ◌==◌}
use Rattle.http_model.specs.Bytes.{is_token_byte, is_value_byte}
use Rattle.http_model.specs.Heads.{head_limit, field_limit}
use Rattle.h1_read.specs.declared.place.Shape.{Shape}
use Rattle.h1_read.specs.declared.place.Shape.TheVariants.{Start, InName, InValue, AtEmptyEnd, AtEnd}
use Rattle.h1_read.specs.declared.place.Place.{Place}
use Rattle.h1_read.specs.declared.place.Place.TheVariants.{Before, BeforeCr, FirstLine, FirstEnd, Fields, Ended}
use Rattle.h1_read.specs.declared.place.Scan.{Scan}
use Rattle.h1_read.specs.declared.place.Scan.TheVariants.{Quiet, Stop}

-- at the start of a line, where so many fields may begin
abbrev pub start_on : ℕ → ℕ → Place
start_on left b =
    if is_token_byte b then (if left == 0 then Ended else Fields left InName)
    else (if b == 13 then Fields left AtEmptyEnd else Ended)

abbrev pub name_on : ℕ → ℕ → Place
name_on left b = if is_token_byte b then Fields left InName else (if b == 58 then Fields left InValue else Ended)

-- behind a value: its line feed, or nothing good
abbrev pub end_on : ℕ → ℕ → Place
end_on left b = if left == 0 then Ended else (if b == 10 then Fields (left - 1) Start else Ended)

abbrev pub value_on : ℕ → ℕ → Place
value_on left b =
    if is_value_byte b then Fields left InValue else (if b == 13 then Fields left AtEnd else end_on left b)

abbrev pub line_on : ℕ → Shape → ℕ → Place
line_on left Start b = start_on left b
line_on left InName b = name_on left b
line_on left InValue b = value_on left b
line_on left AtEmptyEnd b = Ended
line_on left AtEnd b = end_on left b

abbrev pub first_on : ℕ → Place
first_on b = if b == 10 then FirstEnd else FirstLine

abbrev pub empty_on : ℕ → Place
empty_on b = if b == 10 then Before else FirstLine

-- one byte on
abbrev pub place_on : Place → ℕ → Place
place_on Before b = if b == 13 then BeforeCr else empty_on b
place_on BeforeCr b = empty_on b
place_on FirstLine b = first_on b
place_on FirstEnd b = line_on field_limit Start b
place_on (Fields left shape) b = line_on left shape b
place_on Ended b = Ended

-- where bytes behind a place end
abbrev pub places : Place → List ℕ → Place
places p [] = p
places p (b ∷ bytes) = places (place_on p b) bytes

-- before a trailer section
abbrev pub section_start : Place
section_start = Fields field_limit Start

-- the parser has to read up to here
abbrev pub is_stop : Place → Bool
is_stop FirstEnd = true
is_stop Ended = true
is_stop _ = false

-- nowhere in these bytes
abbrev pub is_quiet : Place → List ℕ → Bool
is_quiet p [] = true
is_quiet p (b ∷ bytes) = if is_stop (place_on p b) then false else is_quiet (place_on p b) bytes

pub record IsQuiet (p : Place) (bytes : List ℕ) (now : Place) : Type 0 where
  pub quiet : is_quiet p bytes ≡ true
  pub ends : now ≡ places p bytes

pub record IsStop (bytes : List ℕ) (n : ℕ) : Type 0 where
  pub some : 0 < n
  pub in_range : n ≤ length bytes

abbrev pub IsScan : Place → List ℕ → Scan → Type 0
IsScan p bytes (Quiet now) = IsQuiet p bytes now
IsScan p bytes (Stop n) = IsStop bytes n

-- the same within what a head or a section may take, of which so many bytes came before
abbrev pub IsNextStop : Place → ℕ → List ℕ → Scan → Type 0
IsNextStop p before bytes (Quiet now) = IsQuiet p bytes now × (before + length bytes < head_limit)
IsNextStop p before bytes (Stop n) = IsStop bytes n
