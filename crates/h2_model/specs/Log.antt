-- The log of a session, newest first.
use Rattle.std.specs.Prelude.{ℕ, Bool, true, false, List, [], ◌∷◌, Option, Some, None, filter_map, sum_by}
use Rattle.h2_frames.specs.declared.frame.Frame.{Frame}
use Rattle.h2_frames.specs.declared.frame.Frame.TheVariants as frame
use Rattle.h2_model.specs.declared.answers.Event.{Event}
use Rattle.h2_model.specs.declared.answers.Event.TheVariants as event

pub data LogEntry : Type 0 where
  Opened : ℕ → LogEntry  -- a stream, by the local `open` or by the peer's first HEADERS
  Received : Frame → LogEntry  -- a frame came in
  Block : ℕ → List ℕ → Bool → LogEntry  -- the frame before ended this field block of a stream; true where it ends the stream
  Violated : ℕ → LogEntry  -- a connection error, with its code; no frame counts from here on
  Handed : Frame → LogEntry  -- `head`, `send`, `finish` or `reset` handed a frame over
  Owed : Frame → LogEntry  -- a frame is owed for what came
  Given : Frame → LogEntry  -- the last byte of a frame was given
  Reported : Event → LogEntry  -- what a frame brought

abbrev pub Log : Type 0
Log = List LogEntry

abbrev pub is_empty : {A : Type 0} → List A → Bool
is_empty [] = true
is_empty (x ∷ xs) = false

-- a sum over all entries
abbrev pub total : (LogEntry → ℕ) → Log → ℕ
total f log = sum_by f log

-- What the caller is told

abbrev pub event_in : LogEntry → Option Event
event_in (Reported e) = Some e
event_in _ = None

-- the events, newest first
abbrev pub events : Log → List Event
events log = filter_map event_in log

abbrev pub stream_of_event : Event → ℕ
stream_of_event (event.Head id fields last) = id
stream_of_event (event.Data id bytes last) = id
stream_of_event (event.Reset id code) = id
stream_of_event _ = 0

-- The stream of a frame; 0 is the connection

abbrev pub stream_of : Frame → ℕ
stream_of (frame.Data id bytes last size) = id
stream_of (frame.Headers id block last ends) = id
stream_of (frame.Reset id code) = id
stream_of (frame.Window id n) = id
stream_of _ = 0

-- The violation: the first one, for nothing is received behind it

abbrev pub violation : Log → Option ℕ
violation [] = None
violation (Violated code ∷ log) = Some code
violation (e ∷ log) = violation log
