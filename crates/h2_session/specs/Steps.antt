-- What a frame that comes in does to a session, step by step.
use Rattle.std.specs.Prelude.{ℕ, zero, suc, ◌+◌, ◌≡◌, ◌<◌, ◌^◌, ◌⊎◌, ◌≢◌, Bool, true, false, List, [], ◌∷◌, Option, Some, None, Ok, if◌then◌else◌, map, filter, nat_lt, pos, ◌+ℤ◌, ◌≤ℤ◌}
use Rattle.hpack_core.specs.Tables as hpack
use Rattle.hpack_core.specs.Reading.{block_of}
use Rattle.h2_frames.specs.declared.frame.Frame.{Frame}
use Rattle.h2_frames.specs.declared.frame.Frame.TheVariants as frame
use Rattle.h2_model.specs.declared.answers.Event.{Event}
use Rattle.h2_model.specs.declared.answers.Event.TheVariants as event
use Rattle.h2_model.specs.declared.stream.Stream.{Stream}
use Rattle.h2_model.specs.Streams.{is_live}
use Rattle.h2_model.specs.Blocks.{OpenBlock, more_of, whole_block, decoded_with, fields_or_none}
use Rattle.h2_model.specs.Account.{Account, is_headless}
use Rattle.h2_model.specs.Settings.{initial_window}
use Rattle.h2_model.specs.Windows.{unreturned}
use Rattle.h2_model.specs.Duties.{updates}
use Rattle.h2_model.specs.State.{State, streams, found}
use Rattle.h2_model.specs.Moves.{adjusted, receiving, resetting, with_end}
use Rattle.h2_streams.specs.Changes.{Allows}
use Rattle.h2_streams.specs.declared.changes.Change.TheVariants.{IncrementCame}
use Rattle.h2_laws_kept.specs.Kept.{Kept, lacks_head}
use Rattle.h2_session.specs.Refused.{refused}
use Rattle.h2_session.specs.declared.judging.Whole.{Whole}

-- Frames that are owed

-- none of them has bytes of a body
abbrev pub IsOwed : Frame → Type 0
IsOwed frame.SettingsAck = Unit {0}
IsOwed (frame.Ping ack bytes) = Unit {0}
IsOwed (frame.Window id n) = Unit {0}
IsOwed (frame.Reset id code) = Unit {0}
IsOwed other = ⊥

-- a window update, where one is due
abbrev pub update_frames : ℕ → Option ℕ → List Frame
update_frames id None = []
update_frames id (Some n) = frame.Window id n ∷ []

-- all that is owed for a frame but RST_STREAM
abbrev pub due_frames : Account → Frame → List Frame
due_frames a (frame.Settings list) = frame.SettingsAck ∷ []
due_frames a (frame.Ping ack bytes) = if ack then [] else frame.Ping true bytes ∷ []
due_frames a (frame.Data id bytes last size) = updates a id last size
due_frames a f = []

-- A frame counts

-- the sums of what came stay in their type
abbrev pub CanCount : Frame → State → Type 0
CanCount (frame.Data id bytes last size) s =
    (s.unreturned + size < 2 ^ 32) × ((t : Stream) → found id s.streams ≡ Some t → t.unreturned + size < 2 ^ 32)
CanCount f s = Unit {0}

-- an increment fits the window that it widens
abbrev pub CanTake : Frame → State → Type 0
CanTake (frame.Window zero n) s = (s.window +ℤ pos n) ≤ℤ pos 2147483647
CanTake (frame.Window (suc id) n) s = (t : Stream) → found (suc id) s.streams ≡ Some t → Allows (IncrementCame n) t
CanTake f s = Unit {0}

-- once a stream is reset, it doesn't matter whether an increment of it was applied
abbrev pub IsAbsorbed : Frame → State → State → Type 0
IsAbsorbed (frame.Window (suc id) n) s t = resetting (suc id) t ≡ resetting (suc id) (receiving (frame.Window (suc id) n) s)
IsAbsorbed f s t = Unit {0}

-- Field blocks

-- the block that a frame ends, by the one before it
abbrev pub whole_with : Option OpenBlock → Frame → Option OpenBlock
whole_with block (frame.Headers id part last ends) = if ends then Some (record { stream = id; bytes = part; last = last }) else None
whole_with block (frame.Continuation id part ends) = if ends then more_of part block else None
whole_with block f = None

-- what it is decoded to, and the table behind it
abbrev pub IsDecoded : hpack.TableState → Option OpenBlock → Option Whole → hpack.TableState → Type 0
IsDecoded t None None u = u ≡ t
IsDecoded t (Some b) (Some w) u = (w.stream ≡ b.stream) × (w.last ≡ b.last) × (block_of t b.bytes ≡ Ok (w.fields, u))
IsDecoded t b w u = ⊥

abbrev pub ending : Option Whole → State → State
ending None s = s
ending (Some w) s = record s { streams = adjusted w.stream (with_end w.last) s.streams }

-- What the parts say of an account

pub record IsOn (k : Kept) (b : Account) : Type 0 where
  pub streams : k.state.streams ≡ streams b
  pub unreturned : k.state.unreturned ≡ unreturned 0 b.log
  pub initial : k.state.initial ≡ initial_window b.log
  pub client : k.client ≡ b.client
  pub headless : (id : ℕ) → lacks_head id k ≡ is_headless b id

-- the block that a frame ends
pub record IsPart (b : Account) (f : Frame) (w : Whole) : Type 0 where
  pub bytes : List ℕ
  pub whole : whole_block b.log f ≡ Some (record { stream = w.stream; bytes = bytes; last = w.last })
  pub fields : fields_or_none (decoded_with b.log f) ≡ w.fields

abbrev pub IsWhole : Account → Frame → Option Whole → Type 0
IsWhole b f None = whole_block b.log f ≡ None
IsWhole b f (Some w) = IsPart b f w

-- Events

abbrev pub is_live_whole : Account → Option Whole → Bool
is_live_whole b None = false
is_live_whole b (Some w) = is_live w.stream b.log

-- whether the stream is live of which a frame, or the block that it ends, is
abbrev pub is_on_live : Account → Frame → Option Whole → Bool
is_on_live b (frame.Data id bytes last size) w = is_live id b.log
is_on_live b (frame.Reset id code) w = is_live id b.log
is_on_live b f w = is_live_whole b w

abbrev pub head_of : Option Whole → Event
head_of None = event.Nothing
head_of (Some w) = event.Head w.stream w.fields w.last

abbrev pub if_live : Bool → Event → Event
if_live live e = if live then e else event.Nothing

abbrev pub faultless_event : Frame → Option Whole → Bool → Event
faultless_event (frame.GoAway last code) w live = event.GoAway last code
faultless_event (frame.Data id bytes last size) w live = if_live live (event.Data id bytes last)
faultless_event (frame.Reset id code) w live = if_live live (event.Reset id code)
faultless_event f w live = if_live live (head_of w)

abbrev pub event_by : Frame → Option Whole → Option (ℕ × ℕ) → Bool → Event
event_by f w None live = faultless_event f w live
event_by f w (Some s) live = event.Reset s.0 s.1

-- the streams that a server's GOAWAY refuses
abbrev pub refused_ids : Bool → Frame → List Stream → List ℕ
refused_ids client (frame.GoAway last code) streams =
    if client then map (λ t. t.id) (filter (λ t. nat_lt last t.id) streams) else []
refused_ids client f streams = []

abbrev pub resetting_all : List ℕ → State → State
resetting_all [] s = s
resetting_all (id ∷ ids) s = resetting_all ids (resetting id s)

-- an event, the streams that are refused behind it, and all events in order
abbrev pub IsTold : Event → List ℕ → List Event → Type 0
IsTold e ids es = ((e ≡ event.Nothing) × (ids ≡ []) × (es ≡ [])) ⊎ ((e ≢ event.Nothing) × (es ≡ e ∷ map refused ids))
