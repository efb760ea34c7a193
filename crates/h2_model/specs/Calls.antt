-- What each call of a session may do and answers, by its account.
use Rattle.std.specs.Prelude.{ℕ, suc, ◌+◌, ◌≡◌, ◌<◌, ◌≤◌, min, Bool, true, false, not, ◌&&◌, ◌||◌, List, [], ◌∷◌, ◌++◌, length, take, drop, Option, Some, None, if◌then◌else◌, ◌==◌, nat_lt, filter, reverse, find, sum_by, ℤ, pos, negsuc, ◌⊎◌}
use Rattle.std.specs.List.{list_any}
use Rattle.hpack_core.specs.Writing.{BlockWritten}
use Rattle.h2_frames.specs.declared.frame.Frame.{Frame}
use Rattle.h2_frames.specs.declared.frame.Frame.TheVariants as frame
use Rattle.h2_model.specs.declared.answers.Event.{Event}
use Rattle.h2_model.specs.declared.answers.Event.TheVariants as event
use Rattle.h2_model.specs.declared.answers.Fed.{Fed}
use Rattle.h2_model.specs.declared.answers.SessionFault.{SessionFault}
use Rattle.h2_model.specs.declared.answers.SessionFault.TheVariants.{Code, Memory}
use Rattle.h2_model.specs.Log.{LogEntry, Received, is_empty, stream_of, violation}
use Rattle.h2_model.specs.Streams.{opened, is_live, live_streams, is_ended_here}
use Rattle.h2_model.specs.Settings.{stream_limit, table_limit, known_limit}
use Rattle.h2_model.specs.Queue.{flow, is_data, unsent, control_bytes, bytes_of}
use Rattle.h2_model.specs.Account.{Account, is_headless}
use Rattle.h2_model.specs.Windows.{connection_window, stream_window, held_data}
use Rattle.h2_model.specs.History.{Call, Feed, Open, Head, Send, Finish, Reset, Take, account, with_byte, with_bytes, is_violated, frame_in, is_of, next_number}

-- the role, and how many entries of live streams a client reserved
pub record Role : Type 0 where
  pub client : Bool
  pub streams : ℕ

-- feed

-- it stops where something was brought, and at a violation
abbrev pub is_stopped : Account → Bool
is_stopped a = not (is_empty a.unreported) || is_violated a

unfoldable pub used : List ℕ → Account → ℕ
used [] a = 0
used (b ∷ bytes) a = if is_stopped a then 0 else suc (used bytes (with_byte b a))

abbrev pub used_bytes : List ℕ → Account → List ℕ
used_bytes bytes a = take (used bytes a) bytes

abbrev pub event_or_nothing : List Event → Event
event_or_nothing [] = event.Nothing
event_or_nothing (e ∷ more) = e

pub record IsFed (a : Account) (bytes : List ℕ) (f : Fed) : Type 0 where
  pub used : f.used ≡ used bytes a
  pub event : f.event ≡ event_or_nothing (with_bytes (used_bytes bytes a) a).unreported
  pub sound : violation (with_bytes (used_bytes bytes a) a).log ≡ None

abbrev pub IsFault : Account → List ℕ → SessionFault → Type 0
IsFault a bytes (Code code) = violation (with_bytes (used_bytes bytes a) a).log ≡ Some code
IsFault a bytes Memory = Unit {0}

-- open

abbrev pub is_goaway : LogEntry → Bool
is_goaway (Received (frame.GoAway last code)) = true
is_goaway _ = false

-- below the peer's limit (RFC 9113 section 5.1.2), with a number left (5.1.1), and before a GOAWAY (6.8)
unfoldable pub can_open : Account → Bool
can_open a =
    nat_lt (length (live_streams a.log)) (stream_limit a.log)
    && nat_lt (next_number a) 2147483648
    && not (list_any is_goaway a.log)

abbrev pub is_window : Frame → Bool
is_window (frame.Window id n) = true
is_window _ = false

-- a head, a byte, an end or a reset of a stream waits
unfoldable pub waits : ℕ → Account → Bool
waits id a =
    not (id == 0) && (list_any (λ w. (stream_of w.frame == id) && not (is_window w.frame)) a.waiting
    || list_any (is_of id) a.held)

-- streams that are live, or have a head, an end or a reset that wasn't given
abbrev pub kept_streams : Account → List ℕ
kept_streams a = filter (λ id. is_live id a.log || is_headless a id || waits id a) (opened a.log)

-- head

abbrev pub is_open_here : ℕ → Account → Bool
is_open_here id a = is_live id a.log && not (is_ended_here id a.log)

-- the lowest opened stream whose head wasn't handed over
abbrev pub next_head : Account → Option ℕ
next_head a = find (λ id. is_headless a id) (reverse (opened a.log))

abbrev pub MayHead : ℕ → Account → Type 0
MayHead id a = (next_head a ≡ Some id) ⊎ ((is_headless a id ≡ false) × (is_open_here id a ≡ true))

-- send

abbrev pub positive_part : ℤ → ℕ
positive_part (pos n) = n
positive_part (negsuc n) = 0

-- how many bytes of n are taken
unfoldable pub sendable : ℕ → ℕ → Account → ℕ
sendable id n a = min (min n 16384) (min (positive_part (connection_window a)) (positive_part (stream_window id a)))

-- take

-- the bytes given are the next of those that wait, and none only where there is no room or nothing waits
pub record GivesBytes (a : Account) (old new : List ℕ) (n : ℕ) : Type 0 where
  pub fits : n ≤ length old
  pub there : n ≤ length (flow a.waiting)
  pub bytes : new ≡ take n (flow a.waiting) ++ drop n old
  pub some : n ≡ 0 → (old ≡ []) ⊎ (flow a.waiting ≡ [])

-- control, waiting

unfoldable pub control : Account → ℕ
control a = control_bytes a.waiting + sum_by (λ e. if is_data (frame_in e) then 0 else length (bytes_of (frame_in e))) a.held

-- bytes that `send` took and that weren't given
unfoldable pub unsent_bytes : ℕ → Account → ℕ
unsent_bytes id a = if id == 0 then 0 else unsent id a.waiting + held_data id a.held

-- Every history in which each call answered as it may

abbrev pub May : Role → Call → Account → Type 0
May r (Feed bytes) a = used bytes a ≡ length bytes
May r Open a = (a.client ≡ true) × (can_open a ≡ true) × (length (kept_streams a) < r.streams)
May r (Head id fields block last) a = MayHead id a × (is_violated a ≡ false → BlockWritten (known_limit a.log) (table_limit a.log) fields block)
May r (Send id bytes) a = (is_open_here id a ≡ true) × (length bytes ≤ sendable id (length bytes) a)
May r (Finish id) a = is_open_here id a ≡ true
May r (Reset id code) a = is_live id a.log ≡ true
May r (Take n) a = n ≤ length (flow a.waiting)

abbrev pub IsHistory : Role → List Call → Type 0
IsHistory r [] = Unit {0}
IsHistory r (call ∷ h) = IsHistory r h × May r call (account r.client h)

abbrev pub now : Role → List Call → Account
now r h = account r.client h
