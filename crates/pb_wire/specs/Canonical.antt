-- How records are spelled: the canonical form of the Protobuf wire format (protobuf.dev, "Encoding").
use Rattle.std.specs.Prelude.{ℕ, zero, suc, ◌+◌, ◌*◌, ◌/◌, ◌%◌, ◌^◌, ◌<◌, nat_lt, true, false, List, [], ◌∷◌, ◌++◌, length}
use Rattle.std.specs.List.{flat_map}
use Rattle.std.specs.Int.{w32, w64, to_le_bytes}
use Rattle.pb_wire.specs.Records.{Content, varint, fixed64, span, fixed32, Entry}

-- Groups of seven bits, least first, each but the last with its high bit set. The first number is a bound on the
-- groups after the first: the number itself is one.
unfoldable pub groups : ℕ → ℕ → List ℕ
groups zero n = n ∷ []
groups (suc more) n = elim (nat_lt n 128) [ true ↦ n ∷ [] | false ↦ (n % 128 + 128) ∷ groups more (n / 128) ]

-- the shortest varint of a number
unfoldable pub shortest : ℕ → List ℕ
shortest n = groups n n

-- a record of type 0: its tag, and a number
unfoldable pub number_record : ℕ → ℕ → List ℕ
number_record number value = shortest (8 * number) ++ shortest value

-- a record of type 2: its tag, a length and so many bytes
unfoldable pub bytes_record : ℕ → List ℕ → List ℕ
bytes_record number value = shortest (8 * number + 2) ++ (shortest (length value) ++ value)

-- a record of any type: those of types 1 and 5 are a tag and eight or four bytes
unfoldable pub content_record : ℕ → Content → List ℕ
content_record number (varint value) = number_record number value
content_record number (fixed64 value) = shortest (8 * number + 1) ++ to_le_bytes w64 value
content_record number (span value) = bytes_record number value
content_record number (fixed32 value) = shortest (8 * number + 5) ++ to_le_bytes w32 value

abbrev pub record_spelling : Entry → List ℕ
record_spelling e = content_record e.number e.content

-- records one after another
unfoldable pub spelling : List Entry → List ℕ
spelling es = flat_map record_spelling es

abbrev pub ContentFits : Content → Type 0
ContentFits (varint n) = n < 2 ^ 64
ContentFits (fixed64 n) = n < 2 ^ 64
ContentFits (span bytes) = length bytes < 2 ^ 64
ContentFits (fixed32 n) = n < 2 ^ 32

-- a record that has a spelling
pub record IsSpellable (e : Entry) : Type 0 where
  pub low : 0 < e.number
  pub high : e.number < 2 ^ 29
  pub content : ContentFits e.content
