-- What calls inside a session keep and read.
use Rattle.std.specs.Prelude.{ℕ, zero, suc, ◌≡◌, ◌≤◌, ◌<◌, ◌+◌, ◌^◌, Bool, not, ◌&&◌, Option, Some, None, length, nat_lt, if◌then◌else◌}
use Rattle.h2_frames.specs.declared.frame.Frame.{Frame}
use Rattle.h2_frames.specs.declared.frame.Frame.TheVariants as frame
use Rattle.h2_model.specs.declared.stream.Stream.{Stream}
use Rattle.h2_model.specs.Moves.{sending, queueing}
use Rattle.h2_model.specs.State.{State, found}
use Rattle.h2_laws_log.specs.Calling.{heading}
use Rattle.h2_streams.specs.Changes.{Counts}
use Rattle.h2_streams.specs.declared.changes.Change.TheVariants.{UpdateGiven}
use Rattle.h2_laws_kept.specs.Kept.{Kept}

-- no room was lost for frames
pub record KeepsRoom (k l : Kept) : Type 0 where
  pub queue : k.room ≤ l.room
  pub held : k.held_room ≤ l.held_room

-- nor for streams
pub record KeepsRooms (k l : Kept) : Type 0 where
  pub queue : k.room ≤ l.room
  pub held : k.held_room ≤ l.held_room
  pub table : k.table_room ≤ l.table_room

-- a window update fits the window that it widens
abbrev pub CanGive : ℕ → ℕ → State → Type 0
CanGive zero n s = s.receive + n < 2 ^ 32
CanGive (suc id) n s = (t : Stream) → found (suc id) s.streams ≡ Some t → Counts (UpdateGiven n) t

abbrev pub CanGiveWhole : Option Frame → State → Type 0
CanGiveWhole (Some (frame.Window id n)) s = CanGive id n s
CanGiveWhole other s = Unit {0}

-- the stream, or 0, and the increment of a window update
abbrev pub update_in : Option Frame → Option (ℕ × ℕ)
update_in (Some (frame.Window id n)) = Some (id, n)
update_in other = None

-- the peer's limit, the numbers and GOAWAY leave one to open
abbrev pub leaves_a_stream : Kept → Bool
leaves_a_stream k = nat_lt (length k.state.streams) k.state.most && nat_lt k.numbers.next 2147483648 && not k.state.goaway

-- a first block releases what was held for it
abbrev pub heading_as : Bool → ℕ → Frame → State → State
heading_as first id f s = if first then heading id f s else queueing f (sending f s)
