-- How what a session keeps changes by a frame that comes in, step by step.
use Rattle.std.specs.Prelude.{ℕ, Bool, true, false, ◌≡◌, List, [], ◌∷◌, Option, Some, None, if◌then◌else◌, nat_le, nat_lt, length, filter, map}
use Rattle.h2_frames.specs.declared.frame.Frame.{Frame}
use Rattle.h2_frames.specs.declared.frame.Frame.TheVariants as frame
use Rattle.h2_model.specs.declared.answers.Event.{Event}
use Rattle.h2_model.specs.declared.answers.Event.TheVariants as event
use Rattle.h2_model.specs.Codes.{refused_stream}
use Rattle.h2_model.specs.Log.{LogEntry, Opened, Received, Block, Violated, Handed, Owed, Given, Reported, stream_of, stream_of_event}
use Rattle.h2_model.specs.Streams.{is_opened}
use Rattle.h2_model.specs.Blocks.{OpenBlock, open_block, whole_block}
use Rattle.h2_model.specs.Queue.{Waiting}
use Rattle.h2_model.specs.Account.{Account, is_headless}
use Rattle.h2_model.specs.Duties.{owed_for, events_of}
use Rattle.h2_model.specs.History.{with_opening}
use Rattle.h2_model.specs.State.{State, seen}
use Rattle.h2_model.specs.Moves.{opening, receiving, decoding, telling_all, owing_frame, kept_waiting, kept_held}
use Rattle.h2_model.specs.Valid.{Valid}

-- the stream that an entry resets
abbrev pub reset_by : LogEntry → Option ℕ
reset_by (Reported (event.Reset n code)) = Some n
reset_by (Handed (frame.Reset n code)) = Some n
reset_by (Owed (frame.Reset n code)) = Some n
reset_by _ = None

-- the stream that an entry speaks of; 0 is the connection
abbrev pub about : LogEntry → ℕ
about (Opened n) = n
about (Received f) = stream_of f
about (Block n bytes last) = n
about (Violated code) = 0
about (Handed f) = stream_of f
about (Owed f) = stream_of f
about (Given f) = stream_of f
about (Reported e) = stream_of_event e

-- what waits and what is held without what a reset drops
abbrev pub without_waiting : Option ℕ → List Waiting → List Waiting
without_waiting None queue = queue
without_waiting (Some id) queue = kept_waiting id queue

abbrev pub without_held : Option ℕ → List LogEntry → List LogEntry
without_held None held = held
without_held (Some id) held = kept_held id held

-- frames are owed, by which streams have no head yet
abbrev pub owing_frames : (ℕ → Bool) → List Frame → State → State
owing_frames headless [] s = s
owing_frames headless (f ∷ frames) s = owing_frames headless frames (owing_frame (headless (stream_of f)) f s)

-- HEADERS came, by: is the stream known, are there as many as may be
abbrev pub opening_by : Bool → Bool → ℕ → State → State
opening_by true full id s = s
opening_by false true id s = owing_frame false (frame.Reset id refused_stream) (opening id s)
opening_by false false id s = opening id s

abbrev pub opening_for : (ℕ → Bool) → Frame → State → State
opening_for known (frame.Headers id part last ends) s = opening_by (known id) (nat_le 256 (length s.streams)) id s
opening_for known f s = s

-- a frame that is no violation, by what it owes, brings and ends
abbrev pub arriving : (ℕ → Bool) → Frame → List Frame → List Event → Option OpenBlock → State → State
arriving headless f owed events whole s = owing_frames headless owed (telling_all events (decoding whole (receiving f s)))

-- the block that isn't whole yet is one of an opened stream
abbrev pub is_block_opened : Account → Option OpenBlock → Bool
is_block_opened a None = true
is_block_opened a (Some b) = is_opened b.stream a.log

-- what holds of every account: a block that ends counts for a stream that was opened
pub record FramesSound (a : Account) : Type 0 where
  pub valid : Valid a
  pub block : is_block_opened a (open_block a.log) ≡ true

-- what is kept after a frame that is no violation
abbrev pub with_frame : Frame → Account → State
with_frame f a =
    let b : Account = with_opening f a in
    arriving (is_headless b) f (owed_for b f) (events_of b f) (whole_block b.log f) (opening_for (λ id. is_opened id a.log) f (seen a))

-- the streams that a server's GOAWAY resets, lowest first: RFC 9113 section 6.8
abbrev pub resets_above : Bool → ℕ → State → List Event
resets_above client last s =
    if client then map (λ t. event.Reset t.id refused_stream) (filter (λ t. nat_lt last t.id) s.streams) else []
