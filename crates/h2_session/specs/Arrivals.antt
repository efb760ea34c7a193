-- What openings and connection errors do to what a session keeps.
use Rattle.std.specs.Prelude.{ℕ, ◌≡◌, ◌<◌, ◌≤◌, true, false, List, length, Option, Some, None, if◌then◌else◌, slice_index_or}
use Rattle.hpack_core.specs.Reading.{block_of}
use Rattle.h2_frames.specs.declared.frame.Frame.{Frame}
use Rattle.h2_frames.specs.declared.frame.Frame.TheVariants as frame
use Rattle.h2_model.specs.declared.stream.Stream.{Stream}
use Rattle.h2_model.specs.Blocks.{OpenBlock}
use Rattle.h2_streams.specs.Rows.{code_of}
use Rattle.h2_laws_log.specs.Calling.{failing}
use Rattle.h2_model.specs.Numbers.{Numbers, has, may_have, last_of, with_number}
use Rattle.h2_laws_kept.specs.Kept.{Kept, IsSame}
use Rattle.h2_laws_kept.specs.Rooms.{IsRoomy}

-- a number above those of all live streams
abbrev pub IsAbove : ℕ → List Stream → Type 0
IsAbove id streams = (k : ℕ) (d : Stream) → k < length streams → (slice_index_or streams k d).id < id

-- HEADERS of a number that isn't known may open its stream
abbrev pub CanOpen : Frame → Kept → Type 0
CanOpen (frame.Headers id part last ends) k = has id k.numbers ≡ false →
    (k.client ≡ false) × (may_have id k.numbers ≡ true) × IsAbove id k.state.streams
CanOpen f k = Unit {0}

abbrev pub numbers_with : Frame → Numbers → Numbers
numbers_with (frame.Headers id part last ends) n = if has id n then n else with_number id n
numbers_with f n = n

-- the last stream of the peer
abbrev pub last_of_peer : Kept → ℕ
last_of_peer k = if k.client then 0 else last_of k.numbers

-- a connection error ended the session, with room for GOAWAY
pub record Fails (code : ℕ) (k l : Kept) : Type 0 where
  pub state : l.state ≡ failing (last_of_peer k) code k.state
  pub same : IsSame k l
  pub room : IsRoomy k → IsRoomy l

-- all but the decoder stays
pub record KeepsParts (k l : Kept) : Type 0 where
  pub state : l.state ≡ record k.state { table = l.state.table }
  pub client : l.client ≡ k.client
  pub streams : l.streams ≡ k.streams
  pub greeted : l.greeted ≡ k.greeted
  pub reader : l.reader ≡ k.reader
  pub numbers : l.numbers ≡ k.numbers
  pub headless : l.headless ≡ k.headless
  pub entries : l.entries ≡ k.entries
  pub room : l.room ≡ k.room
  pub held_room : l.held_room ≡ k.held_room
  pub table_room : l.table_room ≡ k.table_room

-- the code of what a block is decoded to, where it isn't too long to be decoded
abbrev pub IsCode : ℕ → List ℕ → Kept → Type 0
IsCode code bytes k = length bytes ≤ 65536 → code_of (block_of k.state.table bytes) ≡ Some code

-- a connection error ended the session; the decoder's table is of no use any more
pub record IsFaulty (code : ℕ) (bytes : List ℕ) (k l : Kept) : Type 0 where
  pub told : IsCode code bytes k
  pub after : Kept
  pub kept : KeepsParts k after
  pub fails : Fails code after l

abbrev pub IsUndecoded : ℕ → Option OpenBlock → Kept → Kept → Type 0
IsUndecoded code None k l = ⊥
IsUndecoded code (Some b) k l = IsFaulty code b.bytes k l
