-- What goes out on a stream to the processor, and when it is right.
use Rattle.std.specs.Prelude.{ℕ, ◌≡◌, ◌⊎◌, Bool, true, false, not, ◌&&◌, ◌||◌, List, [], ◌∷◌, ◌++◌, map, filter, flat_map, if◌then◌else◌, ◌==◌}
use Rattle.h2_frames.specs.declared.frame.Frame.{Frame}
use Rattle.h2_frames.specs.declared.frame.Frame.TheVariants as frame
use Rattle.h2_model.specs.declared.answers.Event.TheVariants as event
use Rattle.h2_model.specs.Account.{Account}
use Rattle.h2_model.specs.Calls.{is_window}
use Rattle.h2_model.specs.Log.{LogEntry, Log, Given, Handed, Reported, is_empty, stream_of}
use Rattle.h2_model.specs.Queue.{is_block, is_reset_frame}
use Rattle.http_model.specs.Bytes.{IsPrefix}
use Rattle.hub_model.specs.HubCalls.{HubConfig}
use Rattle.hub_model.specs.World.{Line}
use Rattle.hub_model.specs.Meeting.{cancel}
use Rattle.hub_model.specs.Sending.{asks_of}
use Rattle.hub_model.specs.HubRight.{EndDue, IsOneHead}

-- Heads, DATA and resets of a stream. An update of its window is for what comes in, and goes by itself.
abbrev pub is_sent_on : ℕ → Frame → Bool
is_sent_on id f = not (is_window f) && (stream_of f == id)

abbrev pub given_in : LogEntry → List Frame
given_in (Given f) = f ∷ []
given_in _ = []

-- the frames that went out, oldest first
abbrev pub frames_given : Log → List Frame
frames_given [] = []
frames_given (e ∷ log) = frames_given log ++ given_in e

-- the frames of a stream that went out, or wait for their turn, in the order in which they go
abbrev pub frames_out : ℕ → Account → List Frame
frames_out id a = filter (is_sent_on id) (frames_given a.log ++ map (λ w. w.frame) a.waiting)

-- a piece of asks
abbrev pub is_content : Frame → Bool
is_content (frame.Data id bytes last size) = not last && not (is_empty bytes)
is_content _ = false

-- END_STREAM on an empty DATA frame
abbrev pub is_finish : Frame → Bool
is_finish (frame.Data id bytes last size) = last && is_empty bytes
is_finish _ = false

-- none, END_STREAM or a reset, or a reset behind END_STREAM
abbrev pub are_ends : List Frame → Bool
are_ends [] = true
are_ends (x ∷ []) = is_finish x || is_reset_frame x
are_ends (x ∷ y ∷ []) = is_finish x && is_reset_frame y
are_ends _ = false

-- pieces of asks, and behind them the ends
abbrev pub is_body : List Frame → Bool
is_body [] = true
is_body (f ∷ frames) = if is_content f then is_body frames else are_ends (f ∷ frames)

-- one head first
abbrev pub is_course : List Frame → Bool
is_course [] = true
is_course (f ∷ frames) = is_block f && is_body frames

abbrev pub data_of : Frame → List ℕ
data_of (frame.Data id bytes last size) = bytes
data_of _ = []

-- the bytes of all DATA, joined
abbrev pub all_data : List Frame → List ℕ
all_data frames = flat_map data_of frames

-- the log has this entry
abbrev pub Said : LogEntry → Log → Type 0
Said e [] = ⊥
Said e (x ∷ log) = (x ≡ e) ⊎ Said e log

-- the session's own reset of a stream, for a fault of the peer that was told
abbrev pub IsOwn : Log → Frame → Type 0
IsOwn log (frame.Reset id code) = Said (Reported (event.Reset id code)) log
IsOwn log _ = ⊥

-- it was handed over, or is the session's own
abbrev pub Known : Log → Frame → Type 0
Known log f = Said (Handed f) log ⊎ IsOwn log f

abbrev pub Each : (Frame → Type 0) → List Frame → Type 0
Each P [] = Unit {0}
Each P (f ∷ fs) = P f × Each P fs

-- The head is that of the call. END_STREAM was due, and so was a reset, which then has CANCEL; or it is the session's own.
abbrev pub IsFrameRight : HubConfig → Line → Log → Frame → Type 0
IsFrameRight c l log (frame.Headers id block last ends) = IsOneHead c (block ∷ [])
IsFrameRight c l log (frame.Data id bytes true size) = EndDue c l true
IsFrameRight c l log (frame.Reset id code) = ((code ≡ cancel) × (finish : Bool) × EndDue c l finish) ⊎ Said (Reported (event.Reset id code)) log
IsFrameRight c l log _ = Unit {0}

-- What goes out on an exchange's stream: one head first, then its asks as far as they go, then the end that is due.
pub record StreamOut (c : HubConfig) (l : Line) (log : Log) (frames : List Frame) : Type 0 where
  pub order : is_course frames ≡ true
  pub asks : IsPrefix (all_data frames) (asks_of c l)
  pub each : Each (IsFrameRight c l log) frames
