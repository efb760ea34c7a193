-- An entry of one exchange, and what it makes due at once: its stream, and the end of it.
use Rattle.std.specs.Prelude.{ℕ, suc, zero, Bool, true, false, not, ◌&&◌, ◌||◌, List, [], ◌∷◌, length, Option, Some, None, if◌then◌else◌, ◌==◌, nat_le, nat_lt, filter, is_none}
use Rattle.std.specs.List.{list_any}
use Rattle.h2_frames.specs.declared.frame.Frame.{Frame}
use Rattle.h2_model.specs.Account.{Account, is_headless}
use Rattle.h2_model.specs.Calls.{can_open, is_open_here}
use Rattle.h2_model.specs.History.{Open, Finish, Reset, called, frame_in, next_number}
use Rattle.h2_model.specs.Log.{stream_of}
use Rattle.h2_model.specs.Queue.{is_block}
use Rattle.h2_model.specs.Streams.{is_live, opened}
use Rattle.http_model.specs.Bytes.{is_empty}
use Rattle.filter_model.specs.Account.{ExchangeAccount}
use Rattle.filter_model.specs.View.{ViewEntry, Closed, NoStream}
use Rattle.hub_model.specs.HubCalls.{HubConfig}
use Rattle.hub_model.specs.World.{EndedStream, Line, World, account_of, is_end, is_live_at, is_over, line, put}

-- one more entry of the exchange at a place
abbrev pub entered : ℕ → ViewEntry → World → World
entered k e w = put k (record (line k w) { view = e ∷ (line k w).view }) w

-- The stream

-- RFC 9113 section 7: the exchange doesn't need the stream any more
abbrev pub cancel : ℕ
cancel = 8

-- a head, an end or a reset
abbrev pub is_turn : ℕ → Frame → Bool
is_turn id f = (is_block f || is_end f) && (stream_of f == id)

-- a stream that isn't live any more, and whose head, end or reset wasn't given
abbrev pub is_unsent : Account → ℕ → Bool
is_unsent a id =
    not (is_live id a.log)
    && (is_headless a id || list_any (λ w. is_turn id w.frame) a.waiting || list_any (λ e. is_turn id (frame_in e)) a.held)

-- Whether a stream can be opened: not once the connection has ended, at the peer's limit, behind the last number or after
-- GOAWAY, nor while too many streams that are over wait for their last frames.
unfoldable pub can_begin : HubConfig → World → Bool
can_begin c w =
    not (is_over w) && can_open w.session
    && nat_lt (length (filter (is_unsent w.session) (opened w.session.log))) c.max_unsent

-- an ask was made, and the exchange wasn't told of a stream or of none
abbrev pub wants_stream : HubConfig → Line → Bool
wants_stream c l = is_none l.stream && not (account_of c l).unopened && not (is_empty (account_of c l).made)

-- the stream of the next number, or none
abbrev pub opening : ℕ → World → Bool → World
opening k w true =
    put k (record (line k w) { stream = Some (next_number w.session) }) (record w { session = called Open w.session })
opening k w false = entered k NoStream w

abbrev pub opening_if : HubConfig → ℕ → World → Bool → World
opening_if c k w true = opening k w (can_begin c w)
opening_if c k w false = w

unfoldable pub with_stream : HubConfig → ℕ → World → World
with_stream c k w = opening_if c k w (wants_stream c (line k w))

-- The end of the stream

abbrev pub is_failure : ViewEntry → Bool
is_failure (Closed false) = true
is_failure _ = false

-- The end that is due after an entry: true for END_STREAM, which comes where all asks were sent, and else a reset. A stream
-- that was closed with an error is reset, where it lives on.
abbrev pub end_due_by : ViewEntry → ExchangeAccount → Option Bool → Option Bool
end_due_by e a (Some finish) = Some (finish && nat_le (length a.made) a.sent)
end_due_by e a None = if is_failure e then Some false else None

abbrev pub end_due : ViewEntry → ExchangeAccount → Option Bool
end_due e a = end_due_by e a a.ending

-- of the ends of one call the lowest stream's comes first
abbrev pub is_before : EndedStream → EndedStream → Bool
is_before x y = nat_lt x.call y.call || ((x.call == y.call) && nat_lt x.stream y.stream)

abbrev pub placed : EndedStream → List EndedStream → List EndedStream
placed x [] = x ∷ []
placed x (y ∷ ys) = if is_before x y then x ∷ y ∷ ys else y ∷ placed x ys

-- the streams that were ended here and live on
abbrev pub kept : World → List EndedStream
kept w = filter (λ x. is_live x.stream w.session.log) w.ended

abbrev pub reset_first : World → List EndedStream → World
reset_first w [] = w
reset_first w (x ∷ xs) = record w { session = called (Reset x.stream cancel) w.session }

-- one too many of them, and the first is reset
abbrev pub within_limit : HubConfig → World → World
within_limit c w = if nat_lt c.max_ended (length (kept w)) then reset_first w (kept w) else w

abbrev pub ending : HubConfig → ℕ → World → Bool → World
ending c id w true =
    within_limit c (record w {
      session = called (Finish id) w.session;
      ended = placed (record { call = w.calls; stream = id }) w.ended;
    })
ending c id w false = record w { session = called (Reset id cancel) w.session }

-- once, on a stream that lives, while the connection does
abbrev pub ending_on : HubConfig → Option ℕ → Option Bool → World → World
ending_on c (Some id) (Some finish) w = if is_open_here id w.session && not (is_over w) then ending c id w finish else w
ending_on c _ _ w = w

unfoldable pub with_end : HubConfig → ℕ → ViewEntry → World → World
with_end c k e w = ending_on c (line k w).stream (end_due e (account_of c (line k w))) w

-- The entry and what follows

abbrev pub meet_if : HubConfig → ℕ → ViewEntry → World → Bool → World
meet_if c k e w true = with_end c k e (with_stream c k (entered k e w))
meet_if c k e w false = w

-- the exchange at a place meets an entry, as long as it is live
unfoldable pub meet : HubConfig → ℕ → ViewEntry → World → World
meet c k e w = meet_if c k e w (is_live_at k w)

abbrev pub meet_all : HubConfig → ℕ → List ViewEntry → World → World
meet_all c k [] w = w
meet_all c k (e ∷ es) w = meet_all c k es (meet c k e w)

-- at the first n places in turn
abbrev pub at_each : ℕ → (ℕ → World → World) → World → World
at_each zero f w = w
at_each (suc n) f w = f n (at_each n f w)

-- at every place, the lowest first
abbrev pub each : (ℕ → World → World) → World → World
each f w = at_each (length w.lines) f w
