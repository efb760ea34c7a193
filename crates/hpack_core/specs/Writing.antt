-- How fields are written: which form each of them takes.
use Rattle.std.specs.Prelude.{ℕ, ◌≡◌, ◌+◌, ◌/◌, ◌<◌, ◌≤◌, ◌⊎◌, nat_lt, Bool, ◌&&◌, List, [], ◌∷◌, ◌++◌, length, Option, Some, None, if◌then◌else◌}
use Rattle.std.specs.Str.{bytes_eq}
use Rattle.hpack_prim.specs.Integers.{int}
use Rattle.hpack_prim.specs.Huffman.{words, IsHuff}
use Rattle.ext_msgs.specs.declared.lists.Field.{Field}
use Rattle.hpack_core.specs.Static.{static_table}
use Rattle.hpack_core.specs.Tables.{TableState}

-- the length of a Huffman string
abbrev pub huff_size : List ℕ → ℕ
huff_size text = (length (words text) + 7) / 8

-- a string as it is written: in Huffman form exactly where that is shorter
abbrev pub StringWritten : List ℕ → List ℕ → Type 0
StringWritten text s =
    ((huff_size text < length text) × (raw : List ℕ) × (length raw ≡ huff_size text) × IsHuff raw text × (s ≡ int 7 128 (length raw) ++ raw))
    ⊎ ((length text ≤ huff_size text) × (s ≡ int 7 0 (length text) ++ text))

-- the number, from n on, of the first entry that passes a test
unfoldable pub first_from : (Field → Bool) → ℕ → List Field → Option ℕ
first_from p n [] = None
first_from p n (e ∷ es) = if p e then Some n else first_from p (n + 1) es

abbrev pub is_name : List ℕ → Field → Bool
is_name name e = bytes_eq e.name name

abbrev pub is_field : Field → Field → Bool
is_field f e = bytes_eq e.name f.name && bytes_eq e.value f.value

-- the lowest number of a field in the static table
unfoldable pub field_number : Field → Option ℕ
field_number f = first_from (is_field f) 1 static_table

-- the lowest number of a name in the static table
unfoldable pub name_number : List ℕ → Option ℕ
name_number name = first_from (is_name name) 1 static_table

-- a name as it is written: its number, or 0 and a string
abbrev pub NameWritten : Option ℕ → List ℕ → List ℕ → Type 0
NameWritten (Some n) name s = s ≡ int 4 0 n
NameWritten None name s = (string : List ℕ) × StringWritten name string × (s ≡ int 4 0 0 ++ string)

-- a field as it is written: its number, or a literal without indexing
abbrev pub FieldWritten : Option ℕ → Field → List ℕ → Type 0
FieldWritten (Some n) f s = s ≡ int 7 128 n
FieldWritten None f s = (name value : List ℕ) × NameWritten (name_number f.name) f.name name × StringWritten f.value value × (s ≡ name ++ value)

-- fields as they are written, one behind the other
abbrev pub FieldsWritten : List Field → List ℕ → Type 0
FieldsWritten [] s = s ≡ []
FieldsWritten (f ∷ fs) s = (a b : List ℕ) × FieldWritten (field_number f) f a × FieldsWritten fs b × (s ≡ a ++ b)

-- the size update that a block begins with, where the limit fell below the one that the peer knows
unfoldable pub update : ℕ → ℕ → List ℕ
update known limit = if nat_lt limit known then int 5 32 limit else []

-- a block as it is written
abbrev pub BlockWritten : ℕ → ℕ → List Field → List ℕ → Type 0
BlockWritten known limit fields bytes = (s : List ℕ) × FieldsWritten fields s × (bytes ≡ update known limit ++ s)

-- What an encoder holds between blocks: the table that the peer knows, and the limit that its next block tells.
pub record Writer : Type 0 where
  pub table : TableState
  pub limit : ℕ
