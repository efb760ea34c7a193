-- Records, and what spells them.
use Rattle.std.specs.Prelude.{◌≡◌, ℕ, ◌+◌, ◌*◌, ◌^◌, ◌<◌, ◌≤◌, List, [], ◌∷◌, ◌++◌, length, slice_index, ◌⊎◌}
use Rattle.pb_wire.specs.declared.fault.Cause.{Cause}
use Rattle.pb_wire.specs.declared.fault.Cause.TheVariants.{Truncated, LongVarint, BadTag, Group}
use Rattle.std.specs.Int.{w32, w64, from_le_bytes}

-- what stands behind a tag
pub data Content : Type 0 where
  varint : ℕ → Content
  fixed64 : ℕ → Content
  span : List ℕ → Content
  fixed32 : ℕ → Content

pub record Entry : Type 0 where
  pub number : ℕ
  pub content : Content

-- A byte below 128 is the last. One from 128 on has the low seven bits, and the bytes after it spell the rest.
abbrev pub SpellsNumber : List ℕ → ℕ → Type 0
SpellsNumber [] n = ⊥
SpellsNumber (b ∷ []) n = (b < 128) × (n ≡ b)
SpellsNumber (b ∷ c ∷ bs) n = (128 ≤ b) × (high : ℕ) × (n + 128 ≡ b + 128 * high) × SpellsNumber (c ∷ bs) high

-- a varint has at most ten bytes, and a tenth is at most 1
pub record IsVarint (bytes : List ℕ) (n : ℕ) : Type 0 where
  pub spells : SpellsNumber bytes n
  pub short : length bytes ≤ 10
  pub tenth : slice_index bytes 9 ≤ 1

abbrev pub kind_of : Content → ℕ
kind_of (varint n) = 0
kind_of (fixed64 n) = 1
kind_of (span bytes) = 2
kind_of (fixed32 n) = 5

abbrev pub SpellsContent : List ℕ → Content → Type 0
SpellsContent bytes (varint n) = IsVarint bytes n
SpellsContent bytes (fixed64 n) = (length bytes ≡ 8) × (n ≡ from_le_bytes w64 bytes)
SpellsContent bytes (span inner) = (front : List ℕ) × IsVarint front (length inner) × (bytes ≡ front ++ inner)
SpellsContent bytes (fixed32 n) = (length bytes ≡ 4) × (n ≡ from_le_bytes w32 bytes)

-- a tag and what stands behind it
pub record Spells (bytes : List ℕ) (e : Entry) : Type 0 where
  pub tag : List ℕ
  pub behind : List ℕ
  pub is_tag : IsVarint tag (8 * e.number + kind_of e.content)
  pub is_behind : SpellsContent behind e.content
  pub low : 0 < e.number
  pub high : e.number < 2 ^ 29
  pub joined : bytes ≡ tag ++ behind

-- the bytes are the joined spellings of the records
abbrev pub Records : List ℕ → List Entry → Type 0
Records bytes [] = bytes ≡ []
Records bytes (e ∷ es) = (front rest : List ℕ) × Spells front e × (bytes ≡ front ++ rest) × Records rest es

-- ---- faults

abbrev pub AllHigh : List ℕ → Type 0
AllHigh [] = Unit {0}
AllHigh (b ∷ bytes) = (128 ≤ b) × AllHigh bytes

-- the input ends within a varint
abbrev pub IsCut : List ℕ → Type 0
IsCut bytes = (length bytes < 10) × AllHigh bytes

-- a varint has a tenth byte above 1, and so perhaps an eleventh
pub record IsLong (bytes : List ℕ) : Type 0 where
  pub front : List ℕ
  pub tenth : ℕ
  pub rest : List ℕ
  pub parts : bytes ≡ front ++ tenth ∷ rest
  pub nine : length front ≡ 9
  pub high : AllHigh front
  pub above : 1 < tenth

-- the bytes begin with a tag
pub record TagAt (bytes : List ℕ) (number kind : ℕ) (rest : List ℕ) : Type 0 where
  pub tag : List ℕ
  pub is_tag : IsVarint tag (8 * number + kind)
  pub below : kind < 8
  pub joined : bytes ≡ tag ++ rest

abbrev pub IsNumber : ℕ → Type 0
IsNumber n = (0 < n) × (n < 2 ^ 29)

-- the input ends within what stands behind a tag of this type
abbrev pub EndsWithin : ℕ → List ℕ → Type 0
EndsWithin kind rest =
    ((kind ≡ 0) × IsCut rest) ⊎ (((kind ≡ 1) × (length rest < 8)) ⊎ (((kind ≡ 2) × IsCut rest) ⊎ (((kind ≡ 2) × (front inner : List ℕ) × (n : ℕ) × IsVarint front n × (rest ≡ front ++ inner) × (length inner < n)) ⊎ ((kind ≡ 5) × (length rest < 4)))))

-- the first fault of the record that begins with these bytes, in the order: the tag's end, its length, its number and type, groups, what stands behind it
abbrev pub FirstFault : List ℕ → Cause → Type 0
FirstFault bytes Truncated = IsCut bytes ⊎ ((number kind : ℕ) × (rest : List ℕ) × TagAt bytes number kind rest × IsNumber number × EndsWithin kind rest)
FirstFault bytes LongVarint = IsLong bytes ⊎ ((number kind : ℕ) × (rest : List ℕ) × TagAt bytes number kind rest × IsNumber number × ((kind ≡ 0) ⊎ (kind ≡ 2)) × IsLong rest)
FirstFault bytes BadTag = (number kind : ℕ) × (rest : List ℕ) × TagAt bytes number kind rest × ((number ≡ 0) ⊎ ((2 ^ 29 ≤ number) ⊎ (6 ≤ kind)))
FirstFault bytes Group = (number kind : ℕ) × (rest : List ℕ) × TagAt bytes number kind rest × IsNumber number × ((kind ≡ 3) ⊎ (kind ≡ 4))
