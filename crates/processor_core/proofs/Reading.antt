-- What a turn of reading makes of a call and of the stages.
use Rattle.std.proofs.Common.{sym, ◌∙◌, ap, subst, arith}
use Rattle.std.specs.Prelude.{ℕ, ◌≡◌, ◌<◌, ◌≤◌, ◌^◌, ◌==◌, Bool, true, false, not, List, [], ◌++◌, drop, length, slice_index, Option, Some, None, Ok, Err, option_map, nat_lt, if◌then◌else◌, refl}
use Rattle.std.proofs.lemmas.Bool.{ltb-false}
use Rattle.h2_frames.specs.Numbers.{u32_at}
use Rattle.grpc_call.specs.declared.fault.CallFault.{CallFault}
use Rattle.grpc_call.specs.declared.fault.CallFault.TheVariants as fault
use Rattle.grpc_call.specs.Framed.{Beginning, Unfinished, Refused, Whole, first, prefix_fault}
use Rattle.grpc_call.specs.Reading.{ReadsData, Response, Keeps, Gives, Fails, taken, taken_by}
use Rattle.grpc_call.proofs.First.{whole_says}
use Rattle.grpc_call.proofs.Cuts.{message_size}
use Rattle.processor_core.specs.Chosen.{AreSeated, Stands}
use Rattle.processor_core.specs.Calls.{Becomes, ServedCall, Desk, Fate, Turn, Turns, finished_by, left_of, met, reader_of, status_for, turn, turned, with_rest}

-- A message is no longer than the limit

gives_whole : (r : Response) (bytes : List ℕ) (ends : Bool) (message : List ℕ) (used : ℕ) → r.headed ≡ true → taken r bytes ends ≡ Gives message used
    → first r.limit (r.rest ++ bytes) ≡ Whole message
gives_whole r bytes ends message used h t = by (first r.limit (r.rest ++ bytes)) ends (sym (ap (λ b. if b then taken_by (first r.limit (r.rest ++ bytes)) r bytes ends else Fails fault.Head) h) ∙ t)
  where
    by : (b : Beginning) (last : Bool) → taken_by b r bytes last ≡ Gives message used → b ≡ Whole message
    by Unfinished true e = absurd cc
    by Unfinished false e = absurd cc
    by (Refused f) last e = absurd cc
    by (Whole m) last e = cc

not_longer : (limit flag size : ℕ) → prefix_fault limit flag size ≡ None → size ≤ limit
not_longer limit flag size e = by (flag == 0) (nat_lt limit size) refl e
  where
    by : (a b : Bool) → nat_lt limit size ≡ b → (if not a then Some fault.Compressed else (if b then Some (fault.TooLong size) else None)) ≡ None → size ≤ limit
    by false b l e = absurd cc
    by true true l e = absurd cc
    by true false l e = ltb-false limit size l

pub short_message : (r : Response) (bytes : List ℕ) (ends : Bool) (message : List ℕ) (used : ℕ) → r.headed ≡ true → r.limit ≡ 4194304 → taken r bytes ends ≡ Gives message used
    → length message < 2 ^ 32
short_message r bytes ends message used h l t =
    let w = gives_whole r bytes ends message used h t in
    let s = message_size r.limit (r.rest ++ bytes) message w in
    let n = not_longer r.limit (slice_index (r.rest ++ bytes) 0) (u32_at (r.rest ++ bytes) 1) (whole_says r.limit (r.rest ++ bytes) message w).right in
    omega arith

-- A fault leaves the reader as it was

pub stays : (r new : Response) (bytes : List ℕ) (ends : Bool) (e : CallFault) → ReadsData r bytes ends (Err e) new → new ≡ r
stays r new bytes ends fault.Head h = h.1
stays r new bytes ends fault.Compressed h = h.1
stays r new bytes ends (fault.TooLong size) h = h.1
stays r new bytes ends fault.Cut h = h.1
stays r new bytes ends fault.NoStatus h = h.1
stays r new bytes ends fault.Memory h = h

abbrev enough : Fate
enough = record { unread = false; lost = None; unwritten = false }

-- a call with what its reader keeps
pub as_read : (c : ServedCall) (r new : Response) (rest : List ℕ) → r ≡ reader_of c → new ≡ record r { rest = rest } → record c { limit = new.limit; rest = new.rest } ≡ record c { rest = rest }
as_read c r new rest i n = ap seen (n ∙ ap (λ (x : Response). record x { rest = rest }) i)
  where
    seen : Response → ServedCall
    seen x = record c { limit = x.limit; rest = x.rest }

pub as_before : (c : ServedCall) (r new : Response) → r ≡ reader_of c → new ≡ r → record c { limit = new.limit; rest = new.rest } ≡ c
as_before c r new i n = ap seen (n ∙ i)
  where
    seen : Response → ServedCall
    seen x = record c { limit = x.limit; rest = x.rest }

module _ {X : Type 0} (stands : Stands X) where
  -- seats, a call and the bytes that are read on stand for a turn
  abbrev Leaves : List (Option X) → ServedCall → Option (List ℕ) → Turn → Type 0
  Leaves seats c left t = AreSeated stands seats t.desk.stages × (c ≡ t.desk.call) × (left ≡ t.left)

  pub keeps : (seats : List (Option X)) (c c' : ServedCall) (r new : Response) (bytes : List ℕ) (ends : Bool) → r ≡ reader_of c → ReadsData r bytes ends (Ok None) new
      → c' ≡ record c { limit = new.limit; rest = new.rest } → Turns stands seats c bytes ends None seats c'
  keeps seats c c' r new bytes ends i h e ss s =
      let d : Desk = record { stages = ss; call = c } in
      let kept : taken (reader_of c) bytes ends ≡ Keeps = sym (ap (λ x. taken x bytes ends) i) ∙ h.0 in
      let z = subst (λ t. Leaves seats c' None (turned t enough bytes d)) (sym kept) (s, e ∙ as_read c r new (r.rest ++ bytes) i h.1 ∙ ap more (ap (λ (x : Response). x.rest) i), refl) in
      (enough, z.0, z.1, z.2)
    where
      more : List ℕ → ServedCall
      more l = record c { rest = l ++ bytes }

  pub fails : (seats seats' : List (Option X)) (c c' : ServedCall) (r new : Response) (bytes : List ℕ) (ends : Bool) (e : CallFault) → r ≡ reader_of c
      → ReadsData r bytes ends (Err e) new → Becomes stands seats c seats' c' (λ f. finished_by (status_for e)) → Turns stands seats c bytes ends None seats' c'
  fails seats seats' c c' r new bytes ends e i h b ss s = by e h q.1 q.2
    where
      d : Desk
      d = record { stages = ss; call = c }

      q : (f : Fate) × AreSeated stands seats' (finished_by (status_for e) d).stages × (c' ≡ (finished_by (status_for e) d).call)
      q = b ss s

      Told : Type 0
      Told = (f : Fate) × AreSeated stands seats' (turn f bytes ends d).desk.stages × (c' ≡ (turn f bytes ends d).desk.call) × (None ≡ (turn f bytes ends d).left)

      known : (e : CallFault) → taken r bytes ends ≡ Fails e → AreSeated stands seats' (finished_by (status_for e) d).stages → c' ≡ (finished_by (status_for e) d).call → Told
      known e t s' e' =
          let z = subst (λ t. Leaves seats' c' None (turned t enough bytes d)) (sym (sym (ap (λ x. taken x bytes ends) i) ∙ t)) (s', e', refl) in
          (enough, z.0, z.1, z.2)

      by : (e : CallFault) → ReadsData r bytes ends (Err e) new → AreSeated stands seats' (finished_by (status_for e) d).stages → c' ≡ (finished_by (status_for e) d).call → Told
      by fault.Head h s' e' = known fault.Head h.0 s' e'
      by fault.Compressed h s' e' = known fault.Compressed h.0 s' e'
      by (fault.TooLong size) h s' e' = known (fault.TooLong size) h.0 s' e'
      by fault.Cut h s' e' = known fault.Cut h.0 s' e'
      by fault.NoStatus h s' e' = known fault.NoStatus h.0 s' e'
      by fault.Memory h s' e' = (record { unread = true; lost = None; unwritten = false }, s', e', refl)

  pub comes : (seats seats' : List (Option X)) (c c' : ServedCall) (r new : Response) (bytes : List ℕ) (ends : Bool) (message : List ℕ) (used : ℕ) (o : Option ℕ) → r ≡ reader_of c
      → ReadsData r bytes ends (Ok (Some (message, used))) new → Becomes stands seats (record c { rest = [] }) seats' c' (met message)
      → option_map (λ n. drop n bytes) o ≡ left_of c'.status (drop used bytes) → Turns stands seats c bytes ends o seats' c'
  comes seats seats' c c' r new bytes ends message used o i h b l ss s = by q.0.unread (as_said q.0.unread refl)
    where
      d : Desk
      d = record { stages = ss; call = c }

      q : (f : Fate) × AreSeated stands seats' (met message f (with_rest [] d)).stages × (c' ≡ (met message f (with_rest [] d)).call)
      q = b ss s

      Told : Type 0
      Told = (f : Fate) × AreSeated stands seats' (turn f bytes ends d).desk.stages × (c' ≡ (turn f bytes ends d).desk.call) × (option_map (λ n. drop n bytes) o ≡ (turn f bytes ends d).left)

      fate : Bool → Fate
      fate u = record { unread = u; lost = q.0.lost; unwritten = q.0.unwritten }

      Met : Bool → Type 0
      Met u = AreSeated stands seats' (met message (fate u) (with_rest [] d)).stages × (c' ≡ (met message (fate u) (with_rest [] d)).call)

      as_said : (u : Bool) → q.0.unread ≡ u → Met u
      as_said u e = subst Met e (q.1, q.2)

      right : taken (reader_of c) bytes ends ≡ Gives message used
      right = sym (ap (λ x. taken x bytes ends) i) ∙ h.0

      by : (u : Bool) → Met u → Told
      by true m = (fate true, m.0, m.1, l ∙ ap (λ (z : ServedCall). left_of z.status (drop used bytes)) m.1)
      by false m =
          let z = subst (λ t. Leaves seats' c' (option_map (λ n. drop n bytes) o) (turned t (fate false) bytes d)) (sym right)
          (m.0, m.1, l ∙ ap (λ (z : ServedCall). left_of z.status (drop used bytes)) m.1) in
          (fate false, z.0, z.1, z.2)
