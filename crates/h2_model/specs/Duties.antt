-- What is owed for a frame, and what it brings.
use Rattle.std.specs.Prelude.{ℕ, ◌+◌, Bool, true, not, ◌&&◌, List, [], ◌∷◌, ◌++◌, Option, Some, None, if◌then◌else◌, nat_lt, nat_le, filter, map, reverse}
use Rattle.ext_msgs.specs.declared.lists.Field.{Field}
use Rattle.h2_frames.specs.declared.frame.Frame.{Frame}
use Rattle.h2_frames.specs.declared.frame.Frame.TheVariants as frame
use Rattle.h2_model.specs.declared.answers.Event.{Event}
use Rattle.h2_model.specs.declared.answers.Event.TheVariants as event
use Rattle.h2_model.specs.Codes.{refused_stream}
use Rattle.h2_model.specs.Log.{Log}
use Rattle.h2_model.specs.Streams.{is_live, live_streams, is_ended_by_peer}
use Rattle.h2_model.specs.Blocks.{OpenBlock, whole_block, decoded_with, fields_or_none}
use Rattle.h2_model.specs.Account.{Account, is_headless}
use Rattle.h2_model.specs.Windows.{unreturned}
use Rattle.h2_model.specs.StreamFaults.{stream_fault}

-- What is owed, in order

-- with these bytes 32,768 were taken since the last update, and all are given back: RFC 9113 section 6.9
abbrev pub update : ℕ → ℕ → Log → List Frame
update id size log =
    let taken : ℕ = unreturned id log + size in
    if nat_le 32768 taken then frame.Window id taken ∷ [] else []

abbrev pub is_open_from_peer : Account → ℕ → Bool → Bool
is_open_from_peer a id last =
    is_live id a.log && not last && not (is_ended_by_peer id a.log) && not (is_headless a id)

-- on the connection, and while the stream is open from the peer, on the stream
abbrev pub updates : Account → ℕ → Bool → ℕ → List Frame
updates a id last size = update 0 size a.log ++ (if is_open_from_peer a id last then update id size a.log else [])

-- a stream error is answered by RST_STREAM: RFC 9113 section 5.4.2
abbrev pub reset_for : Option (ℕ × ℕ) → List Frame
reset_for None = []
reset_for (Some s) = frame.Reset s.0 s.1 ∷ []

-- SETTINGS are acknowledged (RFC 9113 section 6.5.3), and PING is answered with its bytes (section 6.7)
unfoldable pub owed_for : Account → Frame → List Frame
owed_for a (frame.Settings list) = frame.SettingsAck ∷ []
owed_for a (frame.Ping ack bytes) = if ack then [] else frame.Ping true bytes ∷ []
owed_for a (frame.Data id bytes last size) = updates a id last size ++ reset_for (stream_fault a (frame.Data id bytes last size))
owed_for a f = reset_for (stream_fault a f)

-- What a frame brings, in order

-- the streams that a server's GOAWAY resets, lowest first: RFC 9113 section 6.8
abbrev pub reset_by_goaway : Account → ℕ → List Event
reset_by_goaway a last =
    if a.client
    then map (λ id. event.Reset id refused_stream) (reverse (filter (λ id. nat_lt last id) (live_streams a.log)))
    else []

abbrev pub if_live : Account → ℕ → Event → List Event
if_live a id e = if is_live id a.log then e ∷ [] else []

abbrev pub head_event : Account → List Field → Option OpenBlock → List Event
head_event a fields None = []
head_event a fields (Some b) = if_live a b.stream (event.Head b.stream fields b.last)

-- what a frame brings that is no stream error; frames of streams that have ended are dropped
abbrev pub faultless_events : Account → Frame → List Event
faultless_events a (frame.Data id bytes last size) = if_live a id (event.Data id bytes last)
faultless_events a (frame.Reset id code) = if_live a id (event.Reset id code)
faultless_events a (frame.GoAway last code) = event.GoAway last code ∷ reset_by_goaway a last
faultless_events a f = head_event a (fields_or_none (decoded_with a.log f)) (whole_block a.log f)

abbrev pub events_by : Account → Frame → Option (ℕ × ℕ) → List Event
events_by a f None = faultless_events a f
events_by a f (Some s) = event.Reset s.0 s.1 ∷ []

unfoldable pub events_of : Account → Frame → List Event
events_of a f = events_by a f (stream_fault a f)
