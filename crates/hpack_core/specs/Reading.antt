-- Reading a block, place by place: what stands there, or the first fault.
use Rattle.std.specs.Prelude.{ℕ, zero, suc, ◌≡◌, ◌+◌, ◌-◌, nat_lt, nat_le, Bool, true, false, List, [], ◌∷◌, length, take, drop, Result, Ok, Err, Option, Some, None, if◌then◌else◌, get_or}
use Rattle.hpack_prim.specs.declared.fault.PrimFault.{PrimFault}
use Rattle.hpack_prim.specs.declared.fault.PrimFault.TheVariants.{Truncated, TooLarge, Eos, Padding}
use Rattle.hpack_core.specs.declared.fault.HpackFault.{HpackFault}
use Rattle.hpack_core.specs.declared.fault.HpackFault.TheVariants.{Prim, Index, TableSize, ListSize, Memory}
use Rattle.hpack_prim.specs.Integers.{int_at}
use Rattle.hpack_prim.specs.Huffman.{huff_of}
use Rattle.ext_msgs.specs.declared.lists.Field.{Field}
use Rattle.hpack_core.specs.Static.{entry, static_table}
use Rattle.hpack_core.specs.Tables.{TableState, size, added, resized}

infixl 10 ◌>>=◌
abbrev pub ◌>>=◌ : {A B : Type 0} → Result A HpackFault → (A → Result B HpackFault) → Result B HpackFault
(Ok x) >>= f = f x
(Err e) >>= f = Err e

-- a fault of an integer or a string
abbrev pub prim : {A : Type 0} → Result A PrimFault → Result A HpackFault
prim (Ok x) = Ok x
prim (Err e) = Err (Prim e)

-- a fault in bytes that begin at a place
abbrev pub from_place : ℕ → PrimFault → PrimFault
from_place at (Truncated p) = Truncated (at + p)
from_place at (TooLarge p) = TooLarge (at + p)
from_place at (Eos p) = Eos (at + p)
from_place at (Padding p) = Padding (at + p)

abbrev pub placed : {A : Type 0} → ℕ → Result A PrimFault → Result A HpackFault
placed at (Ok x) = Ok x
placed at (Err e) = Err (Prim (from_place at e))

-- the bytes of a string whose raw bytes are given
unfoldable pub string_of : Bool → ℕ → List ℕ → Result (List ℕ) HpackFault
string_of true at raw = placed at (huff_of raw)
string_of false at raw = Ok raw

-- the string at a place, and the place behind it
unfoldable pub string_at : List ℕ → ℕ → Result (List ℕ × ℕ) HpackFault
string_at bytes at = do
  n ← prim (int_at 7 at (drop at bytes))
  if nat_lt (length bytes) (n.1 + n.0) then Err (Prim (Truncated (length bytes))) else (do
    s ← string_of (nat_le 128 (get_or bytes at 0)) n.1 (take n.0 (drop n.1 bytes))
    Ok (s, n.1 + n.0))

-- What a function returned, seen by view, is what reading gives, unless memory ran out.
abbrev pub FailsWith : {Y : Type 0} → HpackFault → Result Y HpackFault → Type 0
FailsWith Memory read = Unit {0}
FailsWith (Prim f) read = read ≡ Err (Prim f)
FailsWith (Index p) read = read ≡ Err (Index p)
FailsWith (TableSize p) read = read ≡ Err (TableSize p)
FailsWith ListSize read = read ≡ Err ListSize

abbrev pub GivesValue : {X Y : Type 0} → (X → Y) → Result X HpackFault → Result Y HpackFault → Type 0
GivesValue view (Ok x) read = read ≡ Ok (view x)
GivesValue view (Err e) read = FailsWith e read

-- the entry of an index, in the representation at a place
unfoldable pub entry_at : List Field → ℕ → ℕ → Result Field HpackFault
entry_at entries at zero = Err (Index at)
entry_at entries at (suc i) =
    if nat_lt i 61 then Ok (get_or static_table i (entry [] [])) else
    (if nat_lt (i - 61) (length entries) then Ok (get_or entries (i - 61) (entry [] [])) else Err (Index at))

-- the name that an index gives, or the string behind the index where it is 0
unfoldable pub name_at : List Field → List ℕ → ℕ → ℕ → ℕ → Result (List ℕ × ℕ) HpackFault
name_at entries bytes at zero next = string_at bytes next
name_at entries bytes at (suc i) next = do
  f ← entry_at entries at (suc i)
  Ok (f.name, next)

-- the literal at a place, with an index of so many bits
unfoldable pub literal_at : List Field → List ℕ → ℕ → ℕ → Result (Field × ℕ) HpackFault
literal_at entries bytes at prefix = do
  i ← prim (int_at prefix at (drop at bytes))
  name ← name_at entries bytes at i.0 i.1
  value ← string_at bytes name.1
  Ok (entry name.0 value.0, value.1)

-- what the representation at a place gives: a field or none, the table behind it, and the next place
pub record Step : Type 0 where
  pub field : Option Field
  pub table : TableState
  pub next : ℕ

abbrev pub step : Option Field → TableState → ℕ → Step
step field table next = record { field = field; table = table; next = next }

unfoldable pub indexed_at : TableState → List ℕ → ℕ → Result Step HpackFault
indexed_at table bytes at = do
  i ← prim (int_at 7 at (drop at bytes))
  f ← entry_at table.entries at i.0
  Ok (step (Some f) table i.1)

unfoldable pub added_at : TableState → List ℕ → ℕ → Result Step HpackFault
added_at table bytes at = do
  f ← literal_at table.entries bytes at 6
  Ok (step (Some f.0) (added f.0 table) f.1)

unfoldable pub plain_at : TableState → List ℕ → ℕ → Result Step HpackFault
plain_at table bytes at = do
  f ← literal_at table.entries bytes at 4
  Ok (step (Some f.0) table f.1)

unfoldable pub resized_at : TableState → Bool → List ℕ → ℕ → Result Step HpackFault
resized_at table first bytes at = do
  n ← prim (int_at 5 at (drop at bytes))
  if nat_lt 4096 n.0 then Err (TableSize at) else (if first then Ok (step None (resized n.0 table) n.1) else Err (TableSize at))

unfoldable pub step_at : TableState → Bool → List ℕ → ℕ → Result Step HpackFault
step_at table first bytes at =
    let b = get_or bytes at 0 in
    if nat_le 128 b then indexed_at table bytes at else
    (if nat_le 64 b then added_at table bytes at else
    (if nat_le 32 b then resized_at table first bytes at else plain_at table bytes at))

abbrev pub with_field : Field → Result (List Field × TableState) HpackFault → Result (List Field × TableState) HpackFault
with_field f (Ok p) = Ok (f ∷ p.0, p.1)
with_field f (Err e) = Err e

-- what a step gives, where the rest is given
abbrev pub from_step : Option Field → TableState → ℕ → Bool → ℕ → (TableState → Bool → ℕ → ℕ → Result (List Field × TableState) HpackFault) → Result (List Field × TableState) HpackFault
from_step None table next first room more = more table first room next
from_step (Some f) table next first room more = if nat_lt room (size f) then Err ListSize else with_field f (more table false (room - size f) next)

-- the fields from a place on, in so many representations at most, whose sizes may take so much room
unfoldable pub fields_in : ℕ → List ℕ → TableState → Bool → ℕ → ℕ → Result (List Field × TableState) HpackFault
fields_in zero bytes table first room at = Err ListSize
fields_in (suc most) bytes table first room at =
    if nat_lt at (length bytes) then (do
      s ← step_at table first bytes at
      from_step s.field s.table s.next first room (λ t f r n. fields_in most bytes t f r n)) else Ok ([], table)

-- the fields of a block, and the table behind it
unfoldable pub block_of : TableState → List ℕ → Result (List Field × TableState) HpackFault
block_of table bytes = fields_in (length bytes + 1) bytes table true 65536 0
