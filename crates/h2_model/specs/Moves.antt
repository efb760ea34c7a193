-- How what a session keeps changes, entry by entry of the log. The laws of `h2_laws_log` say that these
-- are the changes of the sums.
use Rattle.std.specs.Prelude.{ℕ, zero, suc, ◌+◌, ◌-◌, Bool, true, false, not, ◌&&◌, ◌||◌, List, [], ◌∷◌, ◌++◌, length, Option, Some, None, if◌then◌else◌, ◌==◌, filter, filter_map, pos, ◌+ℤ◌, ◌-ℤ◌}
use Rattle.ext_msgs.specs.declared.lists.Field.{Field}
use Rattle.hpack_core.specs.Reading.{block_of}
use Rattle.h2_frames.specs.declared.frame.Frame.{Frame}
use Rattle.h2_frames.specs.declared.frame.Frame.TheVariants as frame
use Rattle.h2_model.specs.declared.answers.Event.{Event}
use Rattle.h2_model.specs.declared.answers.Event.TheVariants as event
use Rattle.h2_model.specs.declared.stream.Stream.{Stream}
use Rattle.h2_model.specs.Log.{LogEntry, Handed, Owed, stream_of}
use Rattle.h2_model.specs.Settings.{setting_in, least_in}
use Rattle.h2_model.specs.Blocks.{OpenBlock, more_of, table_or}
use Rattle.h2_model.specs.Queue.{Waiting, is_free, has_bytes, entered, queued}
use Rattle.h2_model.specs.StreamFaults.{is_interim}
use Rattle.h2_model.specs.Windows.{held_data}
use Rattle.h2_model.specs.History.{frame_in}
use Rattle.h2_model.specs.State.{State}

-- One stream changes, or is over

abbrev pub adjust : ℕ → (Stream → Option Stream) → Stream → Option Stream
adjust id f s = if s.id == id then f s else Some s

abbrev pub adjusted : ℕ → (Stream → Option Stream) → List Stream → List Stream
adjusted id f streams = filter_map (adjust id f) streams

-- over once both ends ended it
abbrev pub unless_over : Stream → Option Stream
unless_over s = if s.peer_ended && s.here_ended then None else Some s

abbrev pub new_stream : ℕ → Stream
new_stream id = record {
  id = id;
  peer_ended = false;
  here_ended = false;
  interim = true;
  credit = pos 0;
  receive = 65535;
  unreturned = 0;
}

unfoldable pub opening : ℕ → State → State
opening id s = record s { streams = s.streams ++ new_stream id ∷ [] }

-- A stream is reset: its bytes that wait are dropped, and give their part of the connection's window back

abbrev pub is_dropped : ℕ → Waiting → Bool
is_dropped id w = is_free w && has_bytes w.frame && (stream_of w.frame == id)

abbrev pub is_dropped_entry : ℕ → LogEntry → Bool
is_dropped_entry id e = has_bytes (frame_in e) && (stream_of (frame_in e) == id)

abbrev pub kept_waiting : ℕ → List Waiting → List Waiting
kept_waiting id queue = filter (λ w. not (is_dropped id w)) queue

abbrev pub kept_held : ℕ → List LogEntry → List LogEntry
kept_held id held = filter (λ e. not (is_dropped_entry id e)) held

abbrev pub dropped_bytes : ℕ → State → ℕ
dropped_bytes id s =
    (queued 0 s.waiting - queued 0 (kept_waiting id s.waiting)) + (held_data 0 s.held - held_data 0 (kept_held id s.held))

unfoldable pub resetting : ℕ → State → State
resetting id s = record s {
  streams = adjusted id (λ t. None) s.streams;
  waiting = kept_waiting id s.waiting;
  held = kept_held id s.held;
  window = s.window +ℤ pos (dropped_bytes id s);
}

-- A frame came

abbrev pub with_data : Bool → ℕ → Stream → Option Stream
with_data last size t = unless_over (record t {
  peer_ended = last || t.peer_ended;
  receive = t.receive - size;
  unreturned = t.unreturned + size;
})

abbrev pub with_increment : ℕ → Stream → Option Stream
with_increment n t = Some (record t { credit = t.credit +ℤ pos n })

unfoldable pub receiving : Frame → State → State
receiving (frame.Data id bytes last size) s = record s {
  first = false;
  receive = s.receive - size;
  unreturned = s.unreturned + size;
  streams = adjusted id (with_data last size) s.streams;
}
receiving (frame.Headers id part last ends) s = record s {
  first = false;
  block = if ends then None else Some (record { stream = id; bytes = part; last = last });
}
receiving (frame.Continuation id part ends) s = record s { first = false; block = if ends then None else more_of part s.block }
receiving (frame.Settings list) s = record s {
  first = false;
  initial = setting_in 4 list s.initial;
  most = setting_in 3 list s.most;
  limit = least_in list s.limit;
}
receiving (frame.Window zero n) s = record s { first = false; window = s.window +ℤ pos n }
receiving (frame.Window (suc id) n) s = record s { first = false; streams = adjusted (suc id) (with_increment n) s.streams }
receiving (frame.GoAway last code) s = record s { first = false; goaway = true }
receiving _ s = record s { first = false }

abbrev pub with_end : Bool → Stream → Option Stream
with_end last t = unless_over (record t { peer_ended = last || t.peer_ended })

-- a block is whole
unfoldable pub decoding : Option OpenBlock → State → State
decoding None s = s
decoding (Some b) s = record s {
  table = table_or s.table (block_of s.table b.bytes);
  streams = adjusted b.stream (with_end b.last) s.streams;
}

abbrev pub with_head : List Field → Stream → Option Stream
with_head fields t = Some (record t { interim = is_interim fields && t.interim })

unfoldable pub reported : Event → State → State
reported (event.Head id fields last) s = record s { streams = adjusted id (with_head fields) s.streams }
reported (event.Reset id code) s = resetting id s
reported _ s = s

abbrev pub telling : Event → State → State
telling e s = let t : State = reported e s in record t { unreported = t.unreported ++ e ∷ [] }

abbrev pub telling_all : List Event → State → State
telling_all [] s = s
telling_all (e ∷ events) s = telling_all events (telling e s)

-- A frame is owed, on a stream whose head was handed over

abbrev pub with_update : ℕ → Stream → Option Stream
with_update n t = Some (record t { unreturned = t.unreturned - n })

unfoldable pub charged : Frame → State → State
charged (frame.Window zero n) s = record s { unreturned = s.unreturned - n }
charged (frame.Window (suc id) n) s = record s { streams = adjusted (suc id) (with_update n) s.streams }
charged (frame.Reset id code) s = resetting id s
charged _ s = s

abbrev pub queueing : Frame → State → State
queueing f s = record s { waiting = entered f s.waiting }

abbrev pub holding : LogEntry → State → State
holding e s = record s { held = s.held ++ e ∷ [] }

unfoldable pub owing_frame : Bool → Frame → State → State
owing_frame headless f s = if headless then holding (Owed f) s else queueing f (charged f s)

-- A frame is handed over

abbrev pub with_sent : Bool → ℕ → Stream → Option Stream
with_sent last n t = unless_over (record t { here_ended = last || t.here_ended; credit = t.credit -ℤ pos n })

abbrev pub with_block_sent : Bool → Stream → Option Stream
with_block_sent last t = unless_over (record t { here_ended = last || t.here_ended })

unfoldable pub sending : Frame → State → State
sending (frame.Data id bytes last size) s = record s {
  window = s.window -ℤ pos (length bytes);
  streams = adjusted id (with_sent last (length bytes)) s.streams;
}
sending (frame.Headers id block last ends) s = record s {
  known = s.limit;
  streams = adjusted id (with_block_sent last) s.streams;
}
sending (frame.Reset id code) s = resetting id s
sending _ s = s

unfoldable pub handing : Bool → Frame → State → State
handing headless f s = if headless then holding (Handed f) (sending f s) else queueing f (sending f s)

-- Bytes go out

abbrev pub with_room : ℕ → Stream → Option Stream
with_room n t = Some (record t { receive = t.receive + n })

unfoldable pub giving : Frame → State → State
giving (frame.Window zero n) s = record s { receive = s.receive + n }
giving (frame.Window (suc id) n) s = record s { streams = adjusted (suc id) (with_room n) s.streams }
giving _ s = s

abbrev pub giving_all : List Frame → State → State
giving_all [] s = s
giving_all (f ∷ frames) s = giving_all frames (giving f s)
