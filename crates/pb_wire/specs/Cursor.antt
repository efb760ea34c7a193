-- Where a reader is.
use Rattle.std.specs.Prelude.{◌≡◌, ℕ, ◌+◌, ◌-◌, ◌<◌, ◌≤◌, List, [], ◌∷◌, length, take, drop, Option, Some, None, Result, Ok, Err}
use Rattle.pb_wire.specs.declared.fault.Cause.{Cause}
use Rattle.pb_wire.specs.declared.fault.WireFault.{WireFault}
use Rattle.pb_wire.specs.declared.reader.Record.{Record}
use Rattle.pb_wire.specs.declared.reader.Payload.{Payload}
use Rattle.pb_wire.specs.declared.reader.Payload.TheVariants as payload
use Rattle.pb_wire.specs.declared.reader.Raw.{Raw}
use Rattle.pb_wire.specs.declared.reader.Raw.TheVariants as raw
use Rattle.pb_wire.specs.Records.{Content, varint, fixed64, span, fixed32, Entry}
use Rattle.pb_wire.specs.Reading.{entry_at, fault_at}

-- a reader over the bytes of whole from at up to end
pub record Cursor : Type 0 where
  pub whole : List ℕ
  pub at : ℕ
  pub end : ℕ
  pub failed : Option WireFault

abbrev pub part : List ℕ → ℕ → ℕ → List ℕ
part bytes start len = take len (drop start bytes)

abbrev pub left : Cursor → List ℕ
left c = part c.whole c.at (c.end - c.at)

-- a record with the place of its first byte, and that of its content's bytes
pub record Placed : Type 0 where
  pub place : ℕ
  pub start : ℕ
  pub entry : Entry

abbrev pub content_of : List ℕ → Payload → Content
content_of whole (payload.Varint n) = varint n
content_of whole (payload.Fixed64 n) = fixed64 n
content_of whole (payload.Span start len) = span (part whole start len)
content_of whole (payload.Fixed32 n) = fixed32 n

-- the length of the bytes in a content
abbrev pub inner_len : Content → ℕ
inner_len (span bytes) = length bytes
inner_len other = 0

abbrev pub start_of : Payload → ℕ
start_of (payload.Span start len) = start
start_of other = 0

-- where the bytes in a content begin, if they end at next
abbrev pub start_before : ℕ → Content → ℕ
start_before next (span bytes) = next - length bytes
start_before next other = 0

-- A record of the bytes that end at end. It begins where the first bytes do, and its content ends where the second begin.
abbrev pub placed_at : ℕ → List ℕ → Result (Entry × List ℕ) Cause → Result (Placed × List ℕ) WireFault
placed_at end bytes (Ok x) = Ok (record { place = end - length bytes; start = start_before (end - length x.1) x.0.content; entry = x.0 }, x.1)
placed_at end bytes (Err c) = Err (fault_at (end - length bytes) c)

abbrev pub some_of : Result (Placed × List ℕ) WireFault → Result (Option (Placed × List ℕ)) WireFault
some_of (Ok x) = Ok (Some x)
some_of (Err f) = Err f

-- what a reader gives at these bytes, which end at end
unfoldable pub next_at : ℕ → List ℕ → Result (Option (Placed × List ℕ)) WireFault
next_at end [] = Ok None
next_at end (b ∷ bytes) = some_of (placed_at end (b ∷ bytes) (entry_at (b ∷ bytes)))

abbrev pub shown : List ℕ → Record → Placed
shown whole r = record { place = r.place; start = start_of r.payload; entry = record { number = r.number; content = content_of whole r.payload } }

-- a span lies within the bytes
abbrev pub IsInside : Payload → ℕ → Type 0
IsInside (payload.Span start len) end = start + len ≤ end
IsInside other end = Unit {0}

-- what a step of reading gives, with the place of the next record
abbrev pub Steps : List ℕ → ℕ → ℕ → Result (Option (Record × ℕ)) WireFault → Type 0
Steps whole at end (Err f) = next_at end (part whole at (end - at)) ≡ Err f
Steps whole at end (Ok None) = next_at end (part whole at (end - at)) ≡ Ok None
Steps whole at end (Ok (Some x)) = (next_at end (part whole at (end - at)) ≡ Ok (Some (shown whole x.0, part whole x.1 (end - x.1)))) × (at < x.1) × (x.1 ≤ end) × IsInside x.0.payload x.1

-- One call of next. A reader that failed gives its fault again. Else it gives what stands at its place, and goes on behind it.
abbrev pub given_unless : Option WireFault → Cursor → Result (Option (Placed × List ℕ)) WireFault
given_unless None c = next_at c.end (left c)
given_unless (Some f) c = Err f

abbrev pub given : Cursor → Result (Option (Placed × List ℕ)) WireFault
given c = given_unless c.failed c

abbrev pub Nexts : Cursor → Cursor → Result (Option Record) WireFault → Type 0
Nexts old new (Err f) = (given old ≡ Err f) × (new ≡ record old { failed = Some f })
Nexts old new (Ok None) = (given old ≡ Ok None) × (new ≡ old)
Nexts old new (Ok (Some r)) = (given old ≡ Ok (Some (shown old.whole r, left new))) × (new ≡ record old { at = new.at }) × (old.at < new.at) × (new.at ≤ old.end) × IsInside r.payload new.at

-- where a raw content's bytes are, if they end at next
abbrev pub payload_before : ℕ → Raw → Payload
payload_before next (raw.Varint n) = payload.Varint n
payload_before next (raw.Fixed64 n) = payload.Fixed64 n
payload_before next (raw.Bytes bytes) = payload.Span (next - length bytes.now) (length bytes.now)
payload_before next (raw.Fixed32 n) = payload.Fixed32 n
