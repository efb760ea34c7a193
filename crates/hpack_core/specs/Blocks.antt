-- Blocks: joined representations, each a form, an integer spelling and strings.
use Rattle.std.specs.Prelude.{ℕ, zero, suc, ◌≡◌, ◌-◌, ◌<◌, ◌≤◌, ◌⊎◌, Bool, true, false, List, [], ◌∷◌, ◌++◌, length, Option, Some, None, get_or}
use Rattle.hpack_prim.specs.Integers.{IsInt}
use Rattle.hpack_prim.specs.Huffman.{IsHuff}
use Rattle.ext_msgs.specs.declared.lists.Field.{Field}
use Rattle.hpack_core.specs.Static.{entry, static_table}
use Rattle.hpack_core.specs.Tables.{TableState, added, resized}

-- the first byte, whose high bits are the form
abbrev pub lead_of : List ℕ → ℕ
lead_of s = get_or s 0 0

-- the raw bytes of a string, and what they stand for
abbrev pub StringStandsFor : ℕ → List ℕ → List ℕ → Type 0
StringStandsFor lead raw text = ((lead < 128) × (text ≡ raw)) ⊎ ((128 ≤ lead) × IsHuff raw text)

-- a string: its length in seven bits, behind one that says whether the bytes are a Huffman string, and the bytes
pub record IsString (spelling text : List ℕ) : Type 0 where
  pub lead : List ℕ
  pub raw : List ℕ
  pub whole : spelling ≡ lead ++ raw
  pub int : IsInt 7 lead (length raw)
  pub stands : StringStandsFor (lead_of lead) raw text

-- the entry of an index
abbrev pub IsEntry : List Field → ℕ → Field → Type 0
IsEntry entries i f =
    ((1 ≤ i) × (i ≤ 61) × (f ≡ get_or static_table (i - 1) (entry [] []))) ⊎ ((62 ≤ i) × (i - 62 < length entries) × (f ≡ get_or entries (i - 62) (entry [] [])))

-- the name that an index gives, or the string behind index 0
abbrev pub IsName : List Field → ℕ → List ℕ → List ℕ → Type 0
IsName entries zero spelling name = IsString spelling name
IsName entries (suc i) spelling name = (spelling ≡ []) × (f : Field) × IsEntry entries (suc i) f × (name ≡ f.name)

-- a literal with an index of so many bits
pub record IsLiteral (entries : List Field) (prefix : ℕ) (spelling : List ℕ) (f : Field) : Type 0 where
  pub index : ℕ
  pub lead : List ℕ
  pub name_spelling : List ℕ
  pub value_spelling : List ℕ
  pub whole : spelling ≡ lead ++ (name_spelling ++ value_spelling)
  pub int : IsInt prefix lead index
  pub name : IsName entries index name_spelling f.name
  pub value : IsString value_spelling f.value

-- one representation: its form, the field that it gives, and the table behind it
pub data IsRepr (t : TableState) : Bool → List ℕ → Option Field → TableState → Type 0 where
  indexed : (first : Bool) (s : List ℕ) (i : ℕ) (f : Field) → 128 ≤ lead_of s → IsInt 7 s i → IsEntry t.entries i f → IsRepr t first s (Some f) t
  incremental : (first : Bool) (s : List ℕ) (f : Field) → 64 ≤ lead_of s → lead_of s < 128 → IsLiteral t.entries 6 s f → IsRepr t first s (Some f) (added f t)
  resize : (s : List ℕ) (n : ℕ) → 32 ≤ lead_of s → lead_of s < 64 → IsInt 5 s n → n ≤ 4096 → IsRepr t true s None (resized n t)
  never : (first : Bool) (s : List ℕ) (f : Field) → 16 ≤ lead_of s → lead_of s < 32 → IsLiteral t.entries 4 s f → IsRepr t first s (Some f) t
  plain : (first : Bool) (s : List ℕ) (f : Field) → lead_of s < 16 → IsLiteral t.entries 4 s f → IsRepr t first s (Some f) t

-- Block: the joined spellings of representations, the fields that they give, and the table behind them
pub data Block : TableState → Bool → List ℕ → List Field → TableState → Type 0 where
  done : (t : TableState) (first : Bool) → Block t first [] [] t
  field : (t u v : TableState) (first : Bool) (s rest : List ℕ) (f : Field) (fs : List Field) → IsRepr t first s (Some f) u → Block u false rest fs v → Block t first (s ++ rest) (f ∷ fs) v
  other : (t u v : TableState) (first : Bool) (s rest : List ℕ) (fs : List Field) → IsRepr t first s None u → Block u first rest fs v → Block t first (s ++ rest) fs v
