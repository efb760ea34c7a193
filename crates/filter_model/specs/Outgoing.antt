-- How a changed message is written, and what of it was given.
use Rattle.std.specs.Prelude.{ℕ, zero, suc, ◌≡◌, ◌<◌, ◌≤◌, ◌+◌, ◌*◌, Bool, not, List, [], ◌∷◌, ◌++◌, length, Option, Some, None, if◌then◌else◌, ◌==◌, filter, flat_map, unwrap_or, bytes_eq, decimal}
use Rattle.std.specs.List.{AllByRecursion}
use Rattle.ext_msgs.specs.declared.lists.Field.{Field}
use Rattle.ext_msgs.specs.declared.answer.Immediate.{Immediate}
use Rattle.header_mutation.specs.Mutated.{replied}
use Rattle.http_model.specs.Bytes.{is_empty, crlf, hex_digit_value}
use Rattle.http_model.specs.Wire.{head_bytes, chunk_bytes, last_bytes, field_lines, reply}
use Rattle.http_model.specs.declared.types.Direction.{Direction}
use Rattle.http_model.specs.declared.types.Framing.{Framing}
use Rattle.http_model.specs.declared.types.Framing.TheVariants.{NoField, Length, Chunked}
use Rattle.filter_model.specs.Course.{Changed, Outgoing, fields_or}

-- each piece that isn't empty is one chunk
abbrev pub body_bytes : Framing → List (List ℕ) → List ℕ
body_bytes Chunked pieces = flat_map chunk_bytes (filter (λ p. not (is_empty p)) pieces)
body_bytes NoField pieces = flat_map (λ p. p) pieces
body_bytes (Length n) pieces = flat_map (λ p. p) pieces

abbrev pub end_bytes : Framing → List Field → List ℕ
end_bytes Chunked trailers = last_bytes trailers
end_bytes NoField trailers = []
end_bytes (Length n) trailers = []

-- behind the head
abbrev pub written_behind : Framing → Changed → List (List ℕ) → List ℕ
written_behind framing m cuts =
    body_bytes framing (m.pieces ++ cuts) ++ (if m.ended then end_bytes framing (unwrap_or m.trailers []) else [])

abbrev pub written_at : Direction → Option Outgoing → Changed → List (List ℕ) → List ℕ
written_at d None m cuts = []
written_at d (Some head) m cuts = head_bytes d head.fields head.framing ++ written_behind head.framing m cuts

-- the bytes of a message whose passing bytes are cut so
abbrev pub written : Direction → Changed → List (List ℕ) → List ℕ
written d m cuts = written_at d m.head m cuts

-- a chunk of passing bytes has from 1 to this many
abbrev pub passing_limit : ℕ
passing_limit = 16384

-- the bytes spell the message, its passing bytes cut anyhow
pub record IsWire (d : Direction) (m : Changed) (bytes : List ℕ) : Type 0 where
  pub cuts : List (List ℕ)
  pub whole : flat_map (λ p. p) cuts ≡ m.passing
  pub sizes : AllByRecursion (λ p. (0 < length p) × (length p ≤ passing_limit)) cuts
  pub spelled : bytes ≡ written d m cuts

-- a valid mutation sets fields of its own behind the status
abbrev pub immediate_reply : Bool → Immediate → List ℕ
immediate_reply to_head i = reply to_head i.code (fields_or [] (replied (decimal i.code) i.headers)) i.body

-- What was given of a chunked body, byte by byte

-- where a byte stands
pub data Framed : Type 0 where
  InSize : ℕ → Framed  -- in a chunk's first line, behind these digits
  InData : ℕ → Framed  -- in its data, so many bytes before the last
  AtEnd : Framed  -- behind its data
  Ended : Framed  -- behind the line of the last chunk

abbrev pub behind_size : ℕ → Framed
behind_size zero = Ended
behind_size (suc n) = InData n

abbrev pub framed_on : Framed → ℕ → Framed
framed_on (InSize n) b = if b == 13 then InSize n else (if b == 10 then behind_size n else InSize (16 * n + hex_digit_value b))
framed_on (InData zero) b = AtEnd
framed_on (InData (suc n)) b = InData n
framed_on AtEnd b = if b == 10 then InSize 0 else AtEnd
framed_on Ended b = Ended

abbrev pub is_data : Framed → ℕ
is_data (InData n) = 1
is_data _ = 0

-- how many of the bytes are data
abbrev pub data_count : Framed → List ℕ → ℕ
data_count s [] = 0
data_count s (b ∷ bytes) = is_data s + data_count (framed_on s b) bytes

-- what stands behind the line of the last chunk
abbrev pub behind_last : Framed → List ℕ → Option (List ℕ)
behind_last Ended bytes = Some bytes
behind_last s [] = None
behind_last s (b ∷ bytes) = behind_last (framed_on s b) bytes

-- how many body bytes these bytes behind a head have
abbrev pub carried : Framing → List ℕ → ℕ
carried Chunked bytes = data_count (InSize 0) bytes
carried NoField bytes = length bytes
carried (Length n) bytes = length bytes

-- the bytes behind a head are all of a message with these trailers and so many body bytes
abbrev pub is_all : Framing → List Field → ℕ → List ℕ → Bool
is_all Chunked trailers n bytes = bytes_eq (unwrap_or (behind_last (InSize 0) bytes) []) (field_lines trailers ++ crlf)
is_all NoField trailers n bytes = length bytes == n
is_all (Length m) trailers n bytes = length bytes == n
