-- What goes to the processor: heads, asks, and which asks were sent.
use Rattle.std.specs.Prelude.{ℕ, suc, ◌+◌, ◌-◌, false, List, [], ◌∷◌, ◌++◌, length, flat_map, filter_map, if◌then◌else◌, ◌==◌, nat_le, Option, Some, None, replicate}
use Rattle.ext_msgs.specs.Spelling.{ask}
use Rattle.ext_msgs.specs.declared.ask.Ask.{Ask}
use Rattle.h2_frames.specs.declared.frame.Frame.{Frame}
use Rattle.h2_frames.specs.declared.frame.Frame.TheVariants as frame
use Rattle.h2_model.specs.Account.{Account}
use Rattle.h2_model.specs.History.{Call, Head, Send, Take, called}
use Rattle.h2_model.specs.Log.{LogEntry, Log, Handed, total}
use Rattle.h2_model.specs.Queue.{queued, unsent}
use Rattle.h2_model.specs.Windows.{data_given}
use Rattle.grpc_call.specs.Written.{call_fields, framed_message}
use Rattle.filter_model.specs.View.{Sent}
use Rattle.filter_model.specs.declared.calls.Taken.{Taken}
use Rattle.filter_model.specs.declared.calls.Taken.TheVariants.{Piece}
use Rattle.hub_model.specs.HubCalls.{HubConfig, Handing, HandsHead, HandsData}
use Rattle.hub_model.specs.World.{Line, World, account_of, line}
use Rattle.hub_model.specs.Meeting.{each, meet_all}

-- What may be sent

-- an ask behind its prefix
abbrev pub framed_ask : Ask → List ℕ
framed_ask x = framed_message (ask x)

-- all that may ever go out on the exchange's stream by now: its asks in the order in which they were made
abbrev pub asks_of : HubConfig → Line → List ℕ
asks_of c l = flat_map framed_ask (account_of c l).made

abbrev pub frame_handed : LogEntry → Option Frame
frame_handed (Handed f) = Some f
frame_handed _ = None

-- the frames that were handed over, newest first
abbrev pub frames_handed : Log → List Frame
frames_handed log = filter_map frame_handed log

abbrev pub data_on : ℕ → Frame → List ℕ
data_on id (frame.Data n bytes last size) = if n == id then bytes else []
data_on id _ = []

-- the bytes of a stream's DATA among frames, oldest first
abbrev pub joined_data : ℕ → List Frame → List ℕ
joined_data id [] = []
joined_data id (f ∷ frames) = joined_data id frames ++ data_on id f

-- all that was handed over on a stream
abbrev pub all_handed : ℕ → Log → List ℕ
all_handed id log = joined_data id (frames_handed log)

-- What is handed over

abbrev pub session_call : HubConfig → Handing → Call
session_call c (HandsHead id block) = Head id (call_fields c.authority) block false
session_call c (HandsData id bytes) = Send id bytes

abbrev pub handed_over : HubConfig → List Handing → Account → Account
handed_over c [] a = a
handed_over c (x ∷ xs) a = handed_over c xs (called (session_call c x) a)

-- What was sent

-- how many bytes of a stream's DATA were given, those of a begun frame among them
abbrev pub data_sent : ℕ → Account → ℕ
data_sent id a = total (data_given id) a.log + (queued id a.waiting - unsent id a.waiting)

-- how many asks these bytes hold whole
abbrev pub whole_asks : List Ask → ℕ → ℕ
whole_asks [] n = 0
whole_asks (x ∷ asks) n =
    if nat_le (length (framed_ask x)) n then suc (whole_asks asks (n - length (framed_ask x))) else 0

-- the asks whose last byte was given, and that the exchange wasn't told of
abbrev pub newly_sent : HubConfig → Line → Option ℕ → Account → ℕ
newly_sent c l None a = 0
newly_sent c l (Some id) a = whole_asks (account_of c l).made (data_sent id a) - (account_of c l).sent

abbrev pub tell_sent : HubConfig → ℕ → World → World
tell_sent c k w = meet_all c k (replicate (newly_sent c (line k w) (line k w).stream w.session) Sent) w

-- all is handed over, and then n bytes are given
abbrev pub after_giving : HubConfig → List Handing → ℕ → World → World
after_giving c xs n w = record w { session = called (Take n) (handed_over c xs w.session) }

unfoldable pub gave : HubConfig → List Handing → Taken → World → World
gave c xs (Piece bytes) w = each (tell_sent c) (after_giving c xs (length bytes) w)
gave c xs _ w = record w { session = handed_over c xs w.session }
