-- Reading records from left to right, with the first fault that is met.
use Rattle.std.specs.Prelude.{◌≡◌, ℕ, zero, suc, ◌+◌, ◌-◌, ◌*◌, ◌/◌, ◌%◌, ◌^◌, ◌||◌, List, [], ◌∷◌, length, take, drop, Result, Ok, Err, nat_lt, ◌==◌, if◌then◌else◌}
use Rattle.std.specs.Int.{Width, w32, w64, byte_len, from_le_bytes}
use Rattle.pb_wire.specs.declared.fault.Cause.{Cause}
use Rattle.pb_wire.specs.declared.fault.Cause.TheVariants.{Truncated, LongVarint, BadTag, Group}
use Rattle.pb_wire.specs.declared.fault.WireFault.{WireFault}
use Rattle.pb_wire.specs.declared.fault.WireFault.TheVariants as wire
use Rattle.pb_wire.specs.declared.reader.Raw.{Raw}
use Rattle.pb_wire.specs.declared.reader.Raw.TheVariants as raw
use Rattle.pb_wire.specs.Records.{Content, varint, fixed64, span, fixed32, Entry}

infixl 10 ◌>>=◌
abbrev pub ◌>>=◌ : {A B : Type 0} → Result A Cause → (A → Result B Cause) → Result B Cause
(Ok x) >>= f = f x
(Err e) >>= f = Err e

-- What a function returned, seen by view, is what reading gives.
abbrev pub Gives : {X Y : Type 0} → (X → Y) → Result X Cause → Result Y Cause → Type 0
Gives view (Ok x) read = read ≡ Ok (view x)
Gives view (Err e) read = read ≡ Err e

-- the number that so many bytes may still spell, and the bytes after it
unfoldable pub groups_at : ℕ → List ℕ → Result (ℕ × List ℕ) Cause
groups_at zero bytes = Err LongVarint
groups_at (suc more) [] = Err Truncated
groups_at (suc zero) (b ∷ bytes) = if nat_lt 1 b then Err LongVarint else Ok (b, bytes)
groups_at (suc (suc more)) (b ∷ bytes) = if nat_lt b 128 then Ok (b, bytes) else (groups_at (suc more) bytes >>= λ high. Ok (b - 128 + 128 * high.0, high.1))

abbrev pub varint_at : List ℕ → Result (ℕ × List ℕ) Cause
varint_at bytes = groups_at 10 bytes

abbrev pub fixed_at : Width → List ℕ → Result (ℕ × List ℕ) Cause
fixed_at w bytes = if nat_lt (length bytes) (byte_len w) then Err Truncated else Ok (from_le_bytes w (take (byte_len w) bytes), drop (byte_len w) bytes)

-- the number and the type of a tag
unfoldable pub tag_of : ℕ → Result (ℕ × ℕ) Cause
tag_of tag = if tag / 8 == 0 || nat_lt (2 ^ 29 - 1) (tag / 8) || nat_lt 5 (tag % 8) then Err BadTag else (if tag % 8 == 3 || tag % 8 == 4 then Err Group else Ok (tag / 8, tag % 8))

-- what stands behind a tag of this type
unfoldable pub content_at : ℕ → List ℕ → Result (Content × List ℕ) Cause
content_at kind bytes =
    if kind == 0 then (varint_at bytes >>= λ n. Ok (varint n.0, n.1))
    else (if kind == 1 then (fixed_at w64 bytes >>= λ n. Ok (fixed64 n.0, n.1))
    else (if kind == 2 then (varint_at bytes >>= λ n. if nat_lt (length n.1) n.0 then Err Truncated else Ok (span (take n.0 n.1), drop n.0 n.1))
    else (fixed_at w32 bytes >>= λ n. Ok (fixed32 n.0, n.1))))

-- the record at the front, and the bytes after it
unfoldable pub entry_at : List ℕ → Result (Entry × List ℕ) Cause
entry_at bytes = do
  tag ← varint_at bytes
  kind ← tag_of tag.0
  content ← content_at kind.1 tag.1
  Ok (record { number = kind.0; content = content.0 }, content.1)

abbrev pub raw_content : Raw → Content
raw_content (raw.Varint n) = varint n
raw_content (raw.Fixed64 n) = fixed64 n
raw_content (raw.Bytes bytes) = span bytes.now
raw_content (raw.Fixed32 n) = fixed32 n

abbrev pub fault_at : ℕ → Cause → WireFault
fault_at place Truncated = wire.Truncated place
fault_at place LongVarint = wire.LongVarint place
fault_at place BadTag = wire.BadTag place
fault_at place Group = wire.Group place
