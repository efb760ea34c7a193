-- What an ask makes of a call and of the stages.
use Rattle.std.proofs.Common.{sym, ◌∙◌, ap, subst}
use Rattle.std.specs.Prelude.{ℕ, ◌≡◌, true, false, List, [], ◌++◌, Option, Some, None, Ok, Err}
use Rattle.ext_msgs.specs.Messages.{IsRead, ask_of}
use Rattle.ext_msgs.specs.Spelling.{answer as answered}
use Rattle.ext_msgs.specs.declared.ask.Ask.{Ask}
use Rattle.ext_msgs.specs.declared.answer.Answer.{Answer}
use Rattle.ext_msgs.specs.declared.fault.MsgFault.{MsgFault}
use Rattle.ext_msgs.specs.declared.fault.MsgFault.TheVariants as msg
use Rattle.grpc_call.specs.declared.fault.CallFault.{CallFault}
use Rattle.grpc_call.specs.Written.{framed_message}
use Rattle.processor_core.specs.Chosen.{AreSeated, Chooses, Staged, Stands, TellsOver, chosen}
use Rattle.processor_core.specs.Calls.{Becomes, ServedCall, Desk, Fate, asks_by, decided, finished_by, met, put, refused_with, status_for}

module _ {X : Type 0} (stands : Stands X) where
  -- seats and a call stand for a desk
  abbrev Leaves : List (Option X) → ServedCall → Desk → Type 0
  Leaves seats c d = AreSeated stands seats d.stages × (c ≡ d.call)

  pub not_answered : (seats between seats' : List (Option X)) (x : Ask) (stream : ℕ) (c c' : ServedCall) → stream ≡ c.stream → Chooses stands seats stream x between None
      → TellsOver stands between c.stream seats' → c' ≡ record c { status = Some 14; rest = [] } → Becomes stands seats c seats' c' (put x)
  not_answered seats between seats' x stream c c' i h' t e ss s =
      let h : Chooses stands seats c.stream x between None = subst (λ n. Chooses stands seats n x between None) i h' in
      let q = h ss s in
      let f : Fate = record { unread = false; lost = q.0; unwritten = false } in
      let left : List Staged = (chosen q.0 c.stream x ss).stages in
      let z = subst (λ a. Leaves seats' c' (decided a (record { stages = left; call = c }))) q.2 (t left q.1, e) in
      (f, z.0, z.1)

  pub not_written : (seats between seats' : List (Option X)) (x : Ask) (stream : ℕ) (c c1 c' : ServedCall) (answer : Option Answer) → stream ≡ c.stream → Chooses stands seats stream x between answer
      → c1 ≡ c → TellsOver stands between c1.stream seats' → c' ≡ record c1 { status = Some 14; rest = [] } → Becomes stands seats c seats' c' (put x)
  not_written seats between seats' x stream c c1 c' answer i h' k t' e' ss s =
      let h : Chooses stands seats c.stream x between answer = subst (λ n. Chooses stands seats n x between answer) i h' in
      let t : TellsOver stands between c.stream seats' = subst (λ (z : ServedCall). TellsOver stands between z.stream seats') k t' in
      let q = h ss s in
      (record { unread = false; lost = q.0; unwritten = true }, t (chosen q.0 c.stream x ss).stages q.1, e' ∙ ap failed k)
    where
      failed : ServedCall → ServedCall
      failed z = record z { status = Some 14; rest = [] }

  pub is_answered : (seats seats' : List (Option X)) (x : Ask) (stream : ℕ) (c c' : ServedCall) (answer : Answer) → stream ≡ c.stream → Chooses stands seats stream x seats' (Some answer)
      → c' ≡ record c { owed = c.owed ++ framed_message (answered answer) } → Becomes stands seats c seats' c' (put x)
  is_answered seats seats' x stream c c' answer i h' e ss s =
      let h : Chooses stands seats c.stream x seats' (Some answer) = subst (λ n. Chooses stands seats n x seats' (Some answer)) i h' in
      let q = h ss s in
      let f : Fate = record { unread = false; lost = q.0; unwritten = false } in
      let left : List Staged = (chosen q.0 c.stream x ss).stages in
      let z = subst (λ a. Leaves seats' c' (decided a (record { stages = left; call = c }))) q.2 (q.1, e) in
      (f, z.0, z.1)

  pub is_met : (seats seats' : List (Option X)) (x : Ask) (c c' : ServedCall) (message : List ℕ) → ask_of message ≡ Ok x → Becomes stands seats c seats' c' (put x)
      → Becomes stands seats c seats' c' (met message)
  is_met seats seats' x c c' message e h ss s =
      let q = h ss s in
      let f : Fate = record { unread = false; lost = q.0.lost; unwritten = q.0.unwritten } in
      let z = subst (λ r. Leaves seats' c' (asks_by r f (record { stages = ss; call = c }))) (sym e) (q.1, q.2) in
      (f, z.0, z.1)

  pub is_finished : (seats seats' : List (Option X)) (c c' : ServedCall) (fault : CallFault) (status : ℕ) → status_for fault ≡ Some status → TellsOver stands seats c.stream seats'
      → c' ≡ record c { status = Some status; rest = [] } → Becomes stands seats c seats' c' (λ f. finished_by (status_for fault))
  is_finished seats seats' c c' fault status f t e ss s =
      let z = subst (λ o. Leaves seats' c' (finished_by o (record { stages = ss; call = c }))) (sym f) (t ss s, e) in
      (record { unread = false; lost = None; unwritten = false }, z.0, z.1)

  pub is_ended : (seats : List (Option X)) (c c' : ServedCall) (fault : CallFault) → status_for fault ≡ None → c' ≡ record c { ended = true }
      → Becomes stands seats c seats c' (λ f. finished_by (status_for fault))
  is_ended seats c c' fault f e ss s =
      let z = subst (λ o. Leaves seats c' (finished_by o (record { stages = ss; call = c }))) (sym f) (s, e) in
      (record { unread = false; lost = None; unwritten = false }, z.0, z.1)

  pub is_unread : (seats seats' : List (Option X)) (c c' : ServedCall) (message : List ℕ) → TellsOver stands seats c.stream seats'
      → c' ≡ record c { status = Some 14; rest = [] } → Becomes stands seats c seats' c' (met message)
  is_unread seats seats' c c' message t e ss s = (record { unread = true; lost = None; unwritten = false }, t ss s, e)

  pub is_refused : (seats seats' : List (Option X)) (c c' : ServedCall) (message : List ℕ) (e : MsgFault) → IsRead (Err e) (ask_of message) → TellsOver stands seats c.stream seats'
      → c' ≡ record c { status = Some (refused_with e); rest = [] } → Becomes stands seats c seats' c' (met message)
  is_refused seats seats' c c' message e r t eq = by e r eq
    where
      known : (e : MsgFault) → ask_of message ≡ Err e → c' ≡ record c { status = Some (refused_with e); rest = [] } → Becomes stands seats c seats' c' (met message)
      known e r eq ss s =
          let f : Fate = record { unread = false; lost = None; unwritten = false } in
          let z = subst (λ r. Leaves seats' c' (asks_by r f (record { stages = ss; call = c }))) (sym r) (t ss s, eq) in
          (f, z.0, z.1)

      by : (e : MsgFault) → IsRead (Err e) (ask_of message) → c' ≡ record c { status = Some (refused_with e); rest = [] } → Becomes stands seats c seats' c' (met message)
      by msg.Memory r eq = is_unread seats seats' c c' message t eq
      by (msg.Wire f) r eq = known (msg.Wire f) r eq
      by (msg.Utf8 n) r eq = known (msg.Utf8 n) r eq
      by (msg.BadNumber n) r eq = known (msg.BadNumber n) r eq
      by msg.NoMember r eq = known msg.NoMember r eq
