-- Lines, the fields of a section, and the line of a chunk. A line ends in CR LF or in a bare LF: RFC 9112 section 2.2.
use Rattle.std.specs.Prelude.{ℕ, zero, suc, Bool, true, false, not, ◌&&◌, ◌||◌, List, [], ◌∷◌, if◌then◌else◌, ◌==◌, nat_lt}
use Rattle.std.specs.Char.{is_ascii_hexdigit}
use Rattle.ext_msgs.specs.declared.lists.Field.{Field}
use Rattle.http_model.specs.Bytes.{is_empty, is_line_byte, is_blank, is_token_byte, is_value_byte, lower, trim, split_at, hex_value, field}
use Rattle.http_model.specs.Reading.{Reading, Whole, Partial, Bad, Fault, BadChunk, LongHead, limited}

-- Lines

abbrev pub before : ℕ → Reading (List ℕ) → Reading (List ℕ)
before b (Whole line rest) = Whole (b ∷ line) rest
before b Partial = Partial
before b (Bad f) = Bad f

-- the bytes up to the first LF, a CR before it with them
abbrev pub line : List ℕ → Reading (List ℕ)
line [] = Partial
line (b ∷ bytes) = elim (b == 10) [ true ↦ Whole [] bytes | false ↦ before b (line bytes) ]

-- without the CR at the end
abbrev pub without_cr : List ℕ → List ℕ
without_cr [] = []
without_cr (b ∷ bytes) = elim (b == 13 && is_empty bytes) [ true ↦ [] | false ↦ b ∷ without_cr bytes ]

abbrev pub begins_with_lf : List ℕ → Bool
begins_with_lf [] = false
begins_with_lf (b ∷ bytes) = b == 10

-- the first line that isn't empty: RFC 9112 section 2.2 has a reader ignore empty lines before a message
abbrev pub first_line : List ℕ → Reading (List ℕ)
first_line [] = Partial
first_line (b ∷ bytes) = elim (b == 10 || (b == 13 && begins_with_lf bytes)) [ true ↦ first_line bytes | false ↦ line (b ∷ bytes) ]

-- Field lines: field-name ":" OWS field-value OWS, RFC 9112 section 5

-- what the bytes of a line so far can be
pub data FieldShape : Type 0 where
  AtStart : FieldShape
  InName : FieldShape
  InValue : FieldShape
  AtEmptyEnd : FieldShape  -- behind the CR of an empty line
  AtEnd : FieldShape  -- behind the CR of a field line
  NoField : FieldShape  -- neither a field line nor an empty one

abbrev pub field_shape_on : FieldShape → ℕ → FieldShape
field_shape_on AtStart b = if is_token_byte b then InName else (if b == 13 then AtEmptyEnd else NoField)
field_shape_on InName b = if is_token_byte b then InName else (if b == 58 then InValue else NoField)
field_shape_on InValue b = if is_value_byte b then InValue else (if b == 13 then AtEnd else NoField)
field_shape_on AtEmptyEnd b = NoField
field_shape_on AtEnd b = NoField
field_shape_on NoField b = NoField

abbrev pub field_shape : FieldShape → List ℕ → FieldShape
field_shape s [] = s
field_shape s (b ∷ bytes) = field_shape (field_shape_on s b) bytes

-- names count in lower case, and the blanks around a value don't belong to it
abbrev pub field_of : List ℕ → Field
field_of bytes = let parts = split_at 58 (without_cr bytes) in field (lower parts.0) (trim parts.1)

-- Sections: field lines, and the empty line that ends them

abbrev pub with_field : Field → Reading (List Field) → Reading (List Field)
with_field f (Whole fields rest) = Whole (f ∷ fields) rest
with_field f Partial = Partial
with_field f (Bad fault) = Bad fault

-- by the shape of a whole line: the section ends, goes on behind a field, or is bad
abbrev pub by_line : Fault → FieldShape → List ℕ → List ℕ → (List ℕ → Reading (List Field)) → Reading (List Field)
by_line bad AtStart bytes rest next = Whole [] rest
by_line bad AtEmptyEnd bytes rest next = Whole [] rest
by_line bad InValue bytes rest next = with_field (field_of bytes) (next rest)
by_line bad AtEnd bytes rest next = with_field (field_of bytes) (next rest)
by_line bad InName bytes rest next = Bad bad
by_line bad NoField bytes rest next = Bad bad

-- by the shape of a line that isn't whole yet
abbrev pub by_part : Fault → FieldShape → Reading (List Field)
by_part bad NoField = Bad bad
by_part bad _ = Partial

abbrev pub section_at : Fault → List ℕ → Reading (List ℕ) → (List ℕ → Reading (List Field)) → Reading (List Field)
section_at bad bytes (Whole l rest) next = by_line bad (field_shape AtStart l) l rest next
section_at bad bytes Partial next = by_part bad (field_shape AtStart bytes)
section_at bad bytes (Bad f) next = Bad f

-- a byte that begins another field
abbrev pub begins_field : List ℕ → Bool
begins_field [] = false
begins_field (b ∷ bytes) = not (is_line_byte b)

-- at most so many fields
unfoldable pub section : Fault → ℕ → List ℕ → Reading (List Field)
section bad zero bytes = elim (begins_field bytes) [
  | true ↦ Bad LongHead
  | false ↦ section_at bad bytes (line bytes) (λ rest. Bad LongHead)
]
section bad (suc n) bytes = section_at bad bytes (line bytes) (section bad n)

-- Chunk lines: chunk-size [ chunk-ext ] CRLF, RFC 9112 section 7.1, with at most sixteen digits, and blanks behind them

pub data ChunkShape : Type 0 where
  InSize : ℕ → ChunkShape  -- behind so many digits
  InBlanks : ChunkShape
  InExtension : ChunkShape
  AtCr : ChunkShape
  NoChunk : ChunkShape

-- behind the size
abbrev pub size_ends : ℕ → ChunkShape
size_ends b =
    if is_blank b then InBlanks else (if b == 59 then InExtension else (if b == 13 then AtCr else NoChunk))

abbrev pub chunk_shape_on : ChunkShape → ℕ → ChunkShape
chunk_shape_on (InSize n) b =
    if is_ascii_hexdigit b then (if nat_lt n 16 then InSize (suc n) else NoChunk)
    else (if n == 0 then NoChunk else size_ends b)
chunk_shape_on InBlanks b = size_ends b
chunk_shape_on InExtension b = if b == 13 then AtCr else InExtension
chunk_shape_on AtCr b = NoChunk
chunk_shape_on NoChunk b = NoChunk

abbrev pub chunk_shape : ChunkShape → List ℕ → ChunkShape
chunk_shape s [] = s
chunk_shape s (b ∷ bytes) = chunk_shape (chunk_shape_on s b) bytes

-- a whole line ends in CR, and gives the size
abbrev pub chunk_by_line : ChunkShape → List ℕ → List ℕ → Reading ℕ
chunk_by_line AtCr l rest = Whole (hex_value 0 l) rest
chunk_by_line _ l rest = Bad BadChunk

abbrev pub chunk_by_part : ChunkShape → Reading ℕ
chunk_by_part NoChunk = Bad BadChunk
chunk_by_part _ = Partial

abbrev pub chunk_line_at : List ℕ → Reading (List ℕ) → Reading ℕ
chunk_line_at bytes (Whole l rest) = chunk_by_line (chunk_shape (InSize 0) l) l rest
chunk_line_at bytes Partial = chunk_by_part (chunk_shape (InSize 0) bytes)
chunk_line_at bytes (Bad f) = Bad f

abbrev pub chunk_line_limit : ℕ
chunk_line_limit = 4096

-- the size of a chunk, within the first 4,096 bytes
unfoldable pub chunk_line : List ℕ → Reading ℕ
chunk_line bytes = limited chunk_line_limit BadChunk (λ front. chunk_line_at front (line front)) bytes
