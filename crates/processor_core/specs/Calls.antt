-- One call: what its stream brought, what it owes the client, and what becomes of its asks.
use Rattle.std.specs.Prelude.{ℕ, ◌≡◌, Bool, true, false, List, [], ◌∷◌, ◌++◌, drop, map, Option, Some, None, option_map, Result, Ok, Err}
use Rattle.ext_msgs.specs.Messages.{ask_of}
use Rattle.ext_msgs.specs.Spelling.{answer as answered}
use Rattle.ext_msgs.specs.declared.ask.Ask.{Ask}
use Rattle.ext_msgs.specs.declared.answer.Answer.{Answer}
use Rattle.ext_msgs.specs.declared.fault.MsgFault.{MsgFault}
use Rattle.ext_msgs.specs.declared.fault.MsgFault.TheVariants as msg
use Rattle.ext_msgs.specs.declared.lists.Field.{Field}
use Rattle.grpc_call.specs.declared.fault.CallFault.{CallFault}
use Rattle.grpc_call.specs.declared.fault.CallFault.TheVariants as fault
use Rattle.grpc_call.specs.Reading.{Response, Taken, Keeps, Gives, Fails, taken}
use Rattle.grpc_call.specs.Served.{refusal_of}
use Rattle.grpc_call.specs.Written.{framed_message}
use Rattle.processor_core.specs.Chosen.{AreSeated, Choice, Staged, Stands, chosen, told_over}

-- A call, from its head until its end has gone out.
pub record ServedCall : Type 0 where
  pub stream : ℕ
  pub limit : ℕ  -- the greatest length of an ask
  pub rest : List ℕ  -- the bytes of the unfinished message
  pub ended : Bool  -- the client has ended its side
  pub owed : List ℕ  -- the bytes of answers that weren't handed to the session
  pub status : Option ℕ  -- the status with which it failed
  pub headed : Bool  -- the response's head was handed to the session
  pub closed : Bool  -- and its end

-- the head of a call came, and whether it ends the stream
abbrev pub begun_call : ℕ → ℕ → List Field → Bool → ServedCall
begun_call limit stream fields ends =
    record { stream = stream; limit = limit; rest = []; ended = ends; owed = []; status = refusal_of fields; headed = false; closed = false }

-- What memory does at one turn of reading: whether the bytes can't be read or kept, at which place the stage stands that says
-- that memory ran out, and whether the answer can't be written.
pub record Fate : Type 0 where
  pub unread : Bool
  pub lost : Option ℕ
  pub unwritten : Bool

-- a call and the stages
pub record Desk : Type 0 where
  pub stages : List Staged
  pub call : ServedCall

-- the call fails: no stage is asked for it any more, and all are told
abbrev pub fails_with : ℕ → Desk → Desk
fails_with status d = record d {
  stages = map (told_over d.call.stream) d.stages;
  call = record d.call { status = Some status; rest = [] };
}

abbrev pub with_answer : Answer → Desk → Desk
with_answer answer d = record d { call = record d.call { owed = d.call.owed ++ framed_message (answered answer) } }

-- an ask was decided: out of memory the call fails with 14
abbrev pub decided : Option Answer → Desk → Desk
decided None d = fails_with 14 d
decided (Some answer) d = with_answer answer d

abbrev pub written : Bool → Option Answer → Option Answer
written true answer = None
written false answer = answer

abbrev pub put_to : Fate → Choice → Desk → Desk
put_to f c d = decided (written f.unwritten c.answer) (record d { stages = c.stages })

-- the status for a message that isn't read
abbrev pub refused_with : MsgFault → ℕ
refused_with msg.Memory = 14
refused_with other = 3

-- an ask is put to the stages
abbrev pub put : Ask → Fate → Desk → Desk
put x f d = put_to f (chosen f.lost d.call.stream x d.stages) d

-- a message came, which is an ask or ends the call with 3
abbrev pub asks_by : Result Ask MsgFault → Fate → Desk → Desk
asks_by (Ok x) f d = put x f d
asks_by (Err e) f d = fails_with (refused_with e) d

abbrev pub met_if : Bool → List ℕ → Fate → Desk → Desk
met_if true message f d = fails_with 14 d
met_if false message f d = asks_by (ask_of message) f d

abbrev pub met : List ℕ → Fate → Desk → Desk
met message f d = met_if f.unread message f d

-- the status for what is at fault with the bytes of a call, and none where it ends as it should
abbrev pub status_for : CallFault → Option ℕ
status_for fault.NoStatus = None
status_for (fault.TooLong size) = Some 8
status_for fault.Memory = Some 14
status_for other = Some 3

abbrev pub finished_by : Option ℕ → Desk → Desk
finished_by (Some status) d = fails_with status d
finished_by None d = record d { call = record d.call { ended = true } }

abbrev pub reader_of : ServedCall → Response
reader_of c = record { limit = c.limit; headed = true; rest = c.rest }

-- One turn of reading: the desk behind it, and the bytes that are read on, where there are any.
pub record Turn : Type 0 where
  pub desk : Desk
  pub left : Option (List ℕ)

abbrev pub left_of : Option ℕ → List ℕ → Option (List ℕ)
left_of (Some status) bytes = None
left_of None bytes = Some bytes

abbrev pub behind_message : List ℕ → Desk → Turn
behind_message bytes d = record { desk = d; left = left_of d.call.status bytes }

abbrev pub with_rest : List ℕ → Desk → Desk
with_rest rest d = record d { call = record d.call { rest = rest } }

abbrev pub turned : Taken → Fate → List ℕ → Desk → Turn
turned Keeps f bytes d = record { desk = with_rest (d.call.rest ++ bytes) d; left = None }
turned (Gives message used) f bytes d = behind_message (drop used bytes) (met message f (with_rest [] d))
turned (Fails e) f bytes d = record { desk = finished_by (status_for e) d; left = None }

abbrev pub turn_if : Bool → Fate → List ℕ → Bool → Desk → Turn
turn_if true f bytes ends d = record { desk = fails_with 14 d; left = None }
turn_if false f bytes ends d = turned (taken (reader_of d.call) bytes ends) f bytes d

abbrev pub turn : Fate → List ℕ → Bool → Desk → Turn
turn f bytes ends d = turn_if f.unread f bytes ends d

abbrev pub going_on_with : Option (List ℕ) → Desk → (List ℕ → Desk → Option Desk) → Option Desk
going_on_with None d behind = Some d
going_on_with (Some bytes) d behind = behind bytes d

abbrev pub going_on : Turn → (List ℕ → Desk → Option Desk) → Option Desk
going_on t behind = going_on_with t.left t.desk behind

-- DATA of a call that hasn't failed, with what memory does at each turn. There is no result while turns are left.
unfoldable pub heard : List Fate → List ℕ → Bool → Desk → Option Desk
heard [] bytes ends d = None
heard (f ∷ fs) bytes ends d = going_on (turn f bytes ends d) (λ rest e. heard fs rest ends e)

-- Seats and a call, and what they become

abbrev pub Becomes : {X : Type 0} → Stands X → List (Option X) → ServedCall → List (Option X) → ServedCall → (Fate → Desk → Desk) → Type 0
Becomes stands seats c seats' c' F =
    (ss : List Staged) → AreSeated stands seats ss
    → (f : Fate) × AreSeated stands seats' (F f (record { stages = ss; call = c })).stages × (c' ≡ (F f (record { stages = ss; call = c })).call)

-- one turn, and how many bytes were used where more are read
abbrev pub Turns : {X : Type 0} → Stands X → List (Option X) → ServedCall → List ℕ → Bool → Option ℕ → List (Option X) → ServedCall → Type 0
Turns stands seats c bytes ends used seats' c' =
    (ss : List Staged) → AreSeated stands seats ss
    → (f : Fate)
    × AreSeated stands seats' (turn f bytes ends (record { stages = ss; call = c })).desk.stages
    × (c' ≡ (turn f bytes ends (record { stages = ss; call = c })).desk.call)
    × (option_map (λ n. drop n bytes) used ≡ (turn f bytes ends (record { stages = ss; call = c })).left)

-- all of a frame's DATA
abbrev pub Hears : {X : Type 0} → Stands X → List (Option X) → ServedCall → List ℕ → Bool → List (Option X) → ServedCall → Type 0
Hears stands seats c bytes ends seats' c' =
    (ss : List Staged) → AreSeated stands seats ss
    → (fs : List Fate) × (ss' : List Staged) × AreSeated stands seats' ss'
    × (heard fs bytes ends (record { stages = ss; call = c }) ≡ Some (record { stages = ss'; call = c' }))
