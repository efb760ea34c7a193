-- The streams of a session, as filters over its log: RFC 9113 section 5.1.
use Rattle.std.specs.Prelude.{ℕ, max, Bool, true, false, not, ◌&&◌, List, [], ◌∷◌, Option, Some, None, ◌==◌, filter_map, filter, if◌then◌else◌}
use Rattle.std.specs.List.{list_any}
use Rattle.ext_msgs.specs.declared.lists.Field.{Field}
use Rattle.h2_frames.specs.declared.frame.Frame.TheVariants as frame
use Rattle.h2_model.specs.declared.answers.Event.{Event}
use Rattle.h2_model.specs.declared.answers.Event.TheVariants as event
use Rattle.h2_model.specs.declared.stream_state.StreamState.{StreamState}
use Rattle.h2_model.specs.declared.stream_state.StreamState.TheVariants.{Idle, Active, HalfClosedLocal, HalfClosedRemote, Closed}
use Rattle.h2_model.specs.Log.{LogEntry, Log, Opened, Received, Block, Handed, Owed, Reported, events}

abbrev pub opening : LogEntry → Option ℕ
opening (Opened n) = Some n
opening _ = None

-- the opened streams, newest first
abbrev pub opened : Log → List ℕ
opened log = filter_map opening log

abbrev pub is_opened : ℕ → Log → Bool
is_opened id log = list_any (λ n. n == id) (opened log)

abbrev pub greatest : List ℕ → ℕ
greatest [] = 0
greatest (n ∷ ns) = max n (greatest ns)

-- A reset of either end: by the peer, by its GOAWAY or by a fault of the stream, each of which is reported; by a call; or
-- at once, of one stream too many.
abbrev pub resets : ℕ → LogEntry → Bool
resets id (Reported (event.Reset n code)) = n == id
resets id (Handed (frame.Reset n code)) = n == id
resets id (Owed (frame.Reset n code)) = n == id
resets id _ = false

-- END_STREAM of the peer stands on DATA, or on the HEADERS whose block is whole
abbrev pub ends_from_peer : ℕ → LogEntry → Bool
ends_from_peer id (Received (frame.Data n bytes last size)) = (n == id) && last
ends_from_peer id (Block n bytes last) = (n == id) && last
ends_from_peer id _ = false

abbrev pub ends_from_here : ℕ → LogEntry → Bool
ends_from_here id (Handed (frame.Data n bytes last size)) = (n == id) && last
ends_from_here id (Handed (frame.Headers n block last ends)) = (n == id) && last
ends_from_here id _ = false

abbrev pub is_reset : ℕ → Log → Bool
is_reset id log = list_any (resets id) log

abbrev pub is_ended_by_peer : ℕ → Log → Bool
is_ended_by_peer id log = list_any (ends_from_peer id) log

abbrev pub is_ended_here : ℕ → Log → Bool
is_ended_here id log = list_any (ends_from_here id) log

-- from its opening until either end reset it or both ended it
abbrev pub is_live : ℕ → Log → Bool
is_live id log =
    is_opened id log && not (is_reset id log) && not (is_ended_by_peer id log && is_ended_here id log)

abbrev pub live_streams : Log → List ℕ
live_streams log = filter (λ id. is_live id log) (opened log)

-- a block of the stream was handed over
abbrev pub is_block_of : ℕ → LogEntry → Bool
is_block_of id (Handed (frame.Headers n block last ends)) = n == id
is_block_of id _ = false

abbrev pub has_head : ℕ → Log → Bool
has_head id log = list_any (is_block_of id) log

abbrev pub head_of : ℕ → Event → Option (List Field)
head_of id (event.Head n fields last) = if n == id then Some fields else None
head_of id _ = None

-- the fields of the blocks that one stream got, newest first
abbrev pub heads_got : ℕ → Log → List (List Field)
heads_got id log = filter_map (head_of id) (events log)

-- The state, by: is it opened, is it reset, did the peer end it, did this end

abbrev pub state_by : Bool → Bool → Bool → Bool → StreamState
state_by false is_reset by_peer here = Idle
state_by true true by_peer here = Closed
state_by true false true true = Closed
state_by true false true false = HalfClosedRemote
state_by true false false true = HalfClosedLocal
state_by true false false false = Active

unfoldable pub state_of : ℕ → Log → StreamState
state_of id log = state_by (is_opened id log) (is_reset id log) (is_ended_by_peer id log) (is_ended_here id log)

abbrev pub is_live_state : StreamState → Bool
is_live_state Idle = false
is_live_state Active = true
is_live_state HalfClosedLocal = true
is_live_state HalfClosedRemote = true
is_live_state Closed = false
