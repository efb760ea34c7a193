-- A session after bytes and calls.
use Rattle.std.specs.Prelude.{ℕ, ◌+◌, ◌*◌, Bool, true, false, not, ◌&&◌, List, [], ◌∷◌, ◌++◌, length, take, drop, Option, Some, None, if◌then◌else◌, ◌==◌, nat_le, filter, map, codes, is_some, bytes_eq}
use Rattle.ext_msgs.specs.declared.lists.Field.{Field}
use Rattle.h2_frames.specs.Frames.{First, first, Unfinished, Whole, Faulty}
use Rattle.h2_frames.specs.Spelling.{spelling}
use Rattle.h2_frames.specs.declared.frame.Frame.{Frame}
use Rattle.h2_frames.specs.declared.frame.Frame.TheVariants as frame
use Rattle.h2_model.specs.declared.answers.Event.{Event}
use Rattle.h2_model.specs.Codes.{protocol_error, refused_stream}
use Rattle.h2_model.specs.Log.{LogEntry, Log, Opened, Received, Block, Violated, Handed, Owed, Given, Reported, stream_of, violation, is_empty}
use Rattle.h2_model.specs.Streams.{opened, is_opened, greatest, is_reset, live_streams}
use Rattle.h2_model.specs.Blocks.{OpenBlock, whole_block}
use Rattle.h2_model.specs.Queue.{fresh, is_free, is_free_content, has_bytes, entered, behind, whole_within}
use Rattle.h2_model.specs.Account.{Account, is_headless}
use Rattle.h2_model.specs.Violations.{violation_of}
use Rattle.h2_model.specs.Duties.{owed_for, events_of}

-- the client's preface: RFC 9113 section 3.4
abbrev pub preface : List ℕ
preface = codes "PRI * HTTP/2.0\r\n\r\nSM\r\n\r\n"

-- a client disables push; a server allows 256 streams
abbrev pub own_settings : Bool → Frame
own_settings client =
    frame.Settings (if client then record { identifier = 2; value = 0 } ∷ [] else record { identifier = 3; value = 256 } ∷ [])

abbrev pub first_bytes : Bool → List ℕ
first_bytes client = (if client then preface else []) ++ spelling (own_settings client)

-- the first SETTINGS are due at once, a client's behind the preface
unfoldable pub start : Bool → Account
start client = record {
  client = client;
  greeted = client;
  rest = [];
  log = Owed (own_settings client) ∷ [];
  waiting = record { frame = own_settings client; left = first_bytes client; fixed = false } ∷ [];
  held = [];
  lost = [];
  unreported = [];
}

-- Entries

abbrev pub frame_in : LogEntry → Frame
frame_in (Handed f) = f
frame_in (Owed f) = f
frame_in _ = frame.SettingsAck

-- bytes of a stream that is reset don't go out, but for the rest of a frame that was begun; heads, ends and resets do
abbrev pub without_reset_bytes : Account → Account
without_reset_bytes a = record a {
  waiting = filter (λ w. not (is_free w && has_bytes w.frame && is_reset (stream_of w.frame) a.log)) a.waiting;
  held = filter (λ e. not (has_bytes (frame_in e) && is_reset (stream_of (frame_in e)) a.log)) a.held;
}

unfoldable pub noted : LogEntry → Account → Account
noted e a = without_reset_bytes (record a { log = e ∷ a.log })

abbrev pub queue_with : Frame → Account → Account
queue_with f a = record a { waiting = entered f a.waiting }

abbrev pub hold : LogEntry → Account → Account
hold e a = record a { held = a.held ++ e ∷ [] }

-- a call hands a frame over; frames of a headless stream are held until its head comes
unfoldable pub handed : Frame → Account → Account
handed f a =
    let b : Account = noted (Handed f) a in
    if is_headless a (stream_of f) then hold (Handed f) b else queue_with f b

-- a frame is owed, on a headless stream from its head on
unfoldable pub owing : Frame → Account → Account
owing f a = if is_headless a (stream_of f) then hold (Owed f) a else queue_with f (noted (Owed f) a)

abbrev pub owing_all : List Frame → Account → Account
owing_all [] a = a
owing_all (f ∷ frames) a = owing_all frames (owing f a)

abbrev pub reporting : Event → Account → Account
reporting e a = let b : Account = noted (Reported e) a in record b { unreported = b.unreported ++ e ∷ [] }

abbrev pub reporting_all : List Event → Account → Account
reporting_all [] a = a
reporting_all (e ∷ events) a = reporting_all events (reporting e a)

-- What comes in

-- HEADERS of a client open a stream; one too many is reset at once: RFC 9113 section 5.1.2
abbrev pub opened_by : Bool → Bool → ℕ → Account → Account
opened_by true full id a = a
opened_by false true id a = owing (frame.Reset id refused_stream) (noted (Opened id) a)
opened_by false false id a = noted (Opened id) a

abbrev pub with_opening : Frame → Account → Account
with_opening (frame.Headers id part last ends) a =
    opened_by (is_opened id a.log) (nat_le 256 (length (live_streams a.log))) id a
with_opening f a = a

abbrev pub with_block : Option OpenBlock → Account → Account
with_block None a = a
with_block (Some b) a = noted (Block b.stream b.bytes b.last) a

unfoldable pub accepted : Frame → Account → Account
accepted f a =
    owing_all (owed_for a f) (reporting_all (events_of a f) (with_block (whole_block a.log f) (noted (Received f) a)))

-- the highest stream that the peer opened
abbrev pub last_of_peer : Account → ℕ
last_of_peer a = if a.client then 0 else greatest (opened a.log)

-- GOAWAY goes behind the frames that wait (RFC 9113 section 6.8); DATA that waits is dropped, but for a begun frame and ends
abbrev pub violated : ℕ → Account → Account
violated code a =
    let goaway : Frame = frame.GoAway (last_of_peer a) code in
    record a {
      log = Owed goaway ∷ Violated code ∷ a.log;
      held = [];
      lost = a.held ++ map (λ w. Handed w.frame) (filter is_free_content a.waiting);
      waiting = filter (λ w. not (is_free_content w)) a.waiting ++ fresh goaway ∷ [];
    }

abbrev pub arrived_by : Option ℕ → Frame → Account → Account
arrived_by None f a = accepted f (with_opening f a)
arrived_by (Some code) f a = violated code a

unfoldable pub arrived : Frame → Account → Account
arrived f a = arrived_by (violation_of a f) f a

abbrev pub with_first : First → List ℕ → Account → Account
with_first Unfinished rest a = record a { rest = rest }
with_first (Whole f n) rest a = arrived f (record a { rest = [] })
with_first (Faulty code) rest a = violated code a

-- the violation stands at the first byte that differs from the preface
abbrev pub with_greeting : List ℕ → Account → Account
with_greeting rest a =
    if bytes_eq rest preface then record a { greeted = true; rest = [] }
    else if bytes_eq rest (take (length rest) preface) then record a { rest = rest }
    else violated protocol_error a

abbrev pub is_violated : Account → Bool
is_violated a = is_some (violation a.log)

-- one more byte came; none counts after a violation
unfoldable pub with_byte : ℕ → Account → Account
with_byte b a =
    let rest : List ℕ = a.rest ++ b ∷ [] in
    if is_violated a then a
    else if a.greeted then with_first (first rest) rest a
    else with_greeting rest a

abbrev pub with_bytes : List ℕ → Account → Account
with_bytes [] a = a
with_bytes (b ∷ bytes) a = with_bytes bytes (with_byte b a)

-- Calls

pub data Call : Type 0 where
  Feed : List ℕ → Call  -- the bytes that it used
  Open : Call
  Head : ℕ → List Field → List ℕ → Bool → Call  -- a stream, fields, the block that they were encoded to, the end
  Send : ℕ → List ℕ → Call  -- the bytes that it took
  Finish : ℕ → Call
  Reset : ℕ → ℕ → Call
  Take : ℕ → Call  -- so many bytes were given

-- a client's streams have odd numbers: RFC 9113 section 5.1.1
abbrev pub next_number : Account → ℕ
next_number a = 2 * length (opened a.log) + 1

-- what `feed` answers isn't waiting any more
abbrev pub answered : Account → Account
answered a = record a { unreported = drop 1 a.unreported }

abbrev pub released : List LogEntry → Account → Account
released [] a = a
released (Owed f ∷ held) a = released held (queue_with f (noted (Owed f) a))
released (e ∷ held) a = released held (queue_with (frame_in e) a)

abbrev pub is_of : ℕ → LogEntry → Bool
is_of id e = stream_of (frame_in e) == id

-- a block goes out, and behind it what was held for it
abbrev pub headed : ℕ → Frame → Account → Account
headed id f a =
    let b : Account = queue_with f (noted (Handed f) a) in
    released (filter (is_of id) b.held) (record b { held = filter (λ e. not (is_of id e)) b.held })

abbrev pub given : List Frame → Log → Log
given [] log = log
given (f ∷ frames) log = given frames (Given f ∷ log)

-- nothing is handed over after a violation
abbrev pub unless_violated : Account → Account → Account
unless_violated a b = if is_violated a then a else b

unfoldable pub called : Call → Account → Account
called (Feed bytes) a = answered (with_bytes bytes a)
called Open a = noted (Opened (next_number a)) a
called (Head id fields block last) a = unless_violated a (headed id (frame.Headers id block last true) a)
called (Send id bytes) a = if is_empty bytes then a else unless_violated a (handed (frame.Data id bytes false (length bytes)) a)
called (Finish id) a = unless_violated a (handed (frame.Data id [] true 0) a)
called (Reset id code) a = unless_violated a (handed (frame.Reset id code) a)
called (Take n) a = record a { log = given (whole_within n a.waiting) a.log; waiting = behind n a.waiting }

-- the account of a history, newest call first
unfoldable pub account : Bool → List Call → Account
account client [] = start client
account client (call ∷ h) = called call (account client h)
