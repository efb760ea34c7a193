-- What waits for the client is never taken away by what comes.
use Rattle.std.proofs.Common.{sym, ◌∙◌, ap, append-nil, append_assoc}
use Rattle.std.specs.Prelude.{ℕ, ◌≡◌, Bool, true, false, List, [], ◌∷◌, ◌++◌, Option, Some, None, Result, Ok, Err, refl}
use Rattle.ext_msgs.specs.Messages.{ask_of}
use Rattle.ext_msgs.specs.Spelling.{answer as answered}
use Rattle.ext_msgs.specs.declared.ask.Ask.{Ask}
use Rattle.ext_msgs.specs.declared.answer.Answer.{Answer}
use Rattle.ext_msgs.specs.declared.fault.MsgFault.{MsgFault}
use Rattle.grpc_call.specs.Reading.{Taken, Keeps, Gives, Fails, taken}
use Rattle.grpc_call.specs.Written.{framed_message}
use Rattle.processor_core.specs.Chosen.{chosen}
use Rattle.processor_core.specs.Calls.{Desk, Fate, Turn, asks_by, decided, finished_by, going_on_with, heard, met_if, reader_of, status_for, turn, turn_if, turned, with_rest, written}

-- more waits in the second
pub record WaitsOn (d e : Desk) : Type 0 where
  pub more : List ℕ
  pub owed : e.call.owed ≡ d.call.owed ++ more

same : (d e : Desk) → e.call.owed ≡ d.call.owed → WaitsOn d e
same d e h = record { more = []; owed = h ∙ sym (append-nil d.call.owed) }

both : (a b c : Desk) → WaitsOn a b → WaitsOn b c → WaitsOn a c
both a b c x y = record { more = x.more ++ y.more; owed = y.owed ∙ ap (λ l. l ++ y.more) x.owed ∙ append_assoc a.call.owed x.more y.more }

by_answer : (o : Option Answer) (d : Desk) → WaitsOn d (decided o d)
by_answer (Some a) d = record { more = framed_message (answered a); owed = refl }
by_answer None d = same d (decided None d) refl

by_ask : (r : Result Ask MsgFault) (f : Fate) (d : Desk) → WaitsOn d (asks_by r f d)
by_ask (Ok x) f d =
    let c = chosen f.lost d.call.stream x d.stages in
    let w = by_answer (written f.unwritten c.answer) (record d { stages = c.stages }) in
    record { more = w.more; owed = w.owed }
by_ask (Err e) f d = same d (asks_by (Err e) f d) refl

by_message : (u : Bool) (message : List ℕ) (f : Fate) (d : Desk) → WaitsOn d (met_if u message f d)
by_message true message f d = same d (met_if true message f d) refl
by_message false message f d = by_ask (ask_of message) f d

by_end : (o : Option ℕ) (d : Desk) → WaitsOn d (finished_by o d)
by_end (Some status) d = same d (finished_by (Some status) d) refl
by_end None d = same d (finished_by None d) refl

by_bytes : (t : Taken) (f : Fate) (bytes : List ℕ) (d : Desk) → WaitsOn d (turned t f bytes d).desk
by_bytes Keeps f bytes d = same d (turned Keeps f bytes d).desk refl
by_bytes (Gives message used) f bytes d =
    let m = by_message f.unread message f (with_rest [] d) in
    record { more = m.more; owed = m.owed }
by_bytes (Fails e) f bytes d = by_end (status_for e) d

by_turn : (u : Bool) (f : Fate) (bytes : List ℕ) (ends : Bool) (d : Desk) → WaitsOn d (turn_if u f bytes ends d).desk
by_turn true f bytes ends d = same d (turn_if true f bytes ends d).desk refl
by_turn false f bytes ends d = by_bytes (taken (reader_of d.call) bytes ends) f bytes d

by_left : (left : Option (List ℕ)) (d next e : Desk) (behind : List ℕ → Desk → Option Desk) → WaitsOn d next
    → ((rest : List ℕ) → behind rest next ≡ Some e → WaitsOn next e) → going_on_with left next behind ≡ Some e → WaitsOn d e
by_left None d next e behind first more g = let s : next ≡ e = cc in record { more = first.more; owed = ap (λ (x : Desk). x.call.owed) (sym s) ∙ first.owed }
by_left (Some rest) d next e behind first more g = both d next e first (more rest g)

pub waits_on : (fs : List Fate) (bytes : List ℕ) (ends : Bool) (d e : Desk) → heard fs bytes ends d ≡ Some e → WaitsOn d e
unfolding heard
waits_on [] bytes ends d e h = absurd cc
waits_on (f ∷ fs) bytes ends d e h =
    let t : Turn = turn f bytes ends d in
    by_left t.left d t.desk e (λ rest x. heard fs rest ends x) (by_turn f.unread f bytes ends d) (λ rest g. waits_on fs rest ends t.desk e g) h
