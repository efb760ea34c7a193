-- A window update that goes out fits the window that it widens, for no more is given back than came.
use Rattle.std.proofs.Common.{◌≡◌, ℕ, zero, suc, ◌+◌, ◌-◌, ◌≤◌, ◌<◌, ◌^◌, Bool, true, false, List, [], ◌∷◌, length, Option, Some, None, option_to_list, refl, sym, ◌∙◌, ap, subst, if◌then◌else◌, nat_lt, arith}
use Rattle.h2_frames.specs.declared.frame.Frame.{Frame}
use Rattle.h2_frames.specs.declared.frame.Frame.TheVariants as frame
use Rattle.h2_model.specs.declared.stream.Stream.{Stream}
use Rattle.h2_model.specs.Log.{Owed, total}
use Rattle.h2_model.specs.Queue.{Waiting, behind, whole_within}
use Rattle.h2_model.specs.Account.{Account}
use Rattle.h2_model.specs.Streams.{is_live}
use Rattle.h2_model.specs.State.{State, live, stream_of_log}
use Rattle.h2_model.specs.Moves.{giving, giving_all}
use Rattle.h2_model.specs.Valid.{Valid, update_of, updates_in}
use Rattle.h2_model.specs.Windows.{increment_owed, increment_given, data_received, receiving_window}
use Rattle.h2_laws_log.specs.Calling.{taking}
use Rattle.h2_laws_log.proofs.Lists.{same-number}
use Rattle.h2_session.specs.Keeping.{CanGive, CanGiveWhole, update_in}
use Rattle.h2_session.proofs.Agreeing.{found-is}
use Rattle.h2_session.proofs.Seen.{seen-receive, seen-waiting}
use Rattle.h2_laws_kept.specs.Kept.{Kept}
use Rattle.h2_laws_kept.specs.StandsFor.{Holds}

first-update : (m id n : ℕ) (queue : List Waiting) → whole_within m queue ≡ frame.Window id n ∷ [] → n ≤ updates_in id queue
first-update m id n [] e = absurd cc
first-update m id n (w ∷ queue) e = by (nat_lt m (length w.left)) e
  where
    by : (c : Bool) → (if c then [] else w.frame ∷ whole_within (m - length w.left) queue) ≡ frame.Window id n ∷ []
        → n ≤ update_of id w + updates_in id queue
    by true q = absurd cc
    by false q =
        let same : w.frame ≡ frame.Window id n = cc in
        let update : update_of id w ≡ n =
        ap (λ f. increment_owed id (Owed f)) same ∙ ap (λ c. if c then n else 0) (same-number id) in
        omega arith

-- the window with it is no wider than at first
narrow : (id n : ℕ) (a : Account) → Valid a → n ≤ updates_in id a.waiting
    → total (data_received id) a.log ≤ 65535 + total (increment_given id) a.log → receiving_window id a.log + n < 2 ^ 32
narrow id n a v waits kept = omega (arith, waits, kept, v.updates id, v.returned id)

live-kept : (id : ℕ) (a : Account) (t : Stream) → live id a ≡ Some t
    → (is_live id a.log ≡ true) × (t.receive ≡ receiving_window id a.log)
unfolding live stream_of_log
live-kept id a t e = by (is_live id a.log) e
  where
    by : (c : Bool) → (if c then Some (stream_of_log id a) else None) ≡ Some t → (c ≡ true) × (t.receive ≡ receiving_window id a.log)
    by true q = let same : stream_of_log id a ≡ t = cc in (refl, ap (λ s. s.receive) (sym same))
    by false q = absurd cc

can-give : (k : Kept) (a : Account) → Holds k a → (m id n : ℕ) → whole_within m k.state.waiting ≡ frame.Window id n ∷ []
    → CanGive id n k.state
can-give k a h m zero n e =
    let waits : n ≤ updates_in 0 a.waiting = first-update m 0 n a.waiting
    (ap (whole_within m) (sym (ap (λ s. s.waiting) h.state ∙ seen-waiting a)) ∙ e) in
    let is : k.state.receive ≡ receiving_window 0 a.log = ap (λ s. s.receive) h.state ∙ seen-receive a in
    rw is (narrow 0 n a h.sound.valid waits h.sound.valid.received)
can-give k a h m (suc id) n e = λ t q.
    let waits : n ≤ updates_in (suc id) a.waiting = first-update m (suc id) n a.waiting
    (ap (whole_within m) (sym (ap (λ s. s.waiting) h.state ∙ seen-waiting a)) ∙ e) in
    let is : (is_live (suc id) a.log ≡ true) × (t.receive ≡ receiving_window (suc id) a.log) =
    live-kept (suc id) a t (sym (found-is k a h (suc id)) ∙ q) in
    rw is.1 (narrow (suc id) n a h.sound.valid waits (h.sound.valid.received_on (suc id) is.0))

-- What went out whole, of a session whose queue is behind it

given-behind : (f : Frame) (s : State) (queue : List Waiting)
    → giving f (record s { waiting = queue }) ≡ record (giving f s) { waiting = queue }
unfolding giving
given-behind (frame.Window zero n) s queue = refl
given-behind (frame.Window (suc id) n) s queue = refl
given-behind f s queue = refl

can-give-behind : (id n : ℕ) (s : State) (queue : List Waiting) → CanGive id n s → CanGive id n (record s { waiting = queue })
can-give-behind zero n s queue h = h
can-give-behind (suc id) n s queue h = h

pub update-is : (id n : ℕ) (s : State) (whole : Option Frame) → update_in whole ≡ Some (id, n) → CanGiveWhole whole s
    → CanGive id n s × (giving_all (option_to_list whole) s ≡ giving (frame.Window id n) s)
update-is id n s (Some (frame.Window j m)) e h =
    let stream : j ≡ id = ap (λ p. p.0) (inside e) in
    let increment : m ≡ n = ap (λ p. p.1) (inside e) in (
      subst (λ k. CanGive k n s) stream (subst (λ k. CanGive j k s) increment h),
      (λ i. giving (frame.Window (stream i) (increment i)) s),
    )
  where
    inside : {x y : ℕ × ℕ} → Some x ≡ Some y → x ≡ y
    inside q = cc
update-is id n s whole e h = absurd cc

pub no-update : (s : State) (whole : Option Frame) → update_in whole ≡ None → giving_all (option_to_list whole) s ≡ s
unfolding giving
no-update s (Some (frame.Window id n)) e = absurd cc
no-update s whole e = refl

pub can-give-whole : (k : Kept) (a : Account) → Holds k a → (m : ℕ) (whole : Option Frame)
    → whole_within m k.state.waiting ≡ option_to_list whole → CanGiveWhole whole (record k.state { waiting = behind m k.state.waiting })
can-give-whole k a h m (Some (frame.Window id n)) e =
    can-give-behind id n k.state (behind m k.state.waiting) (can-give k a h m id n e)
can-give-whole k a h m whole e = tt

pub taken-is : (m : ℕ) (s : State) (whole : Option Frame) → whole_within m s.waiting ≡ option_to_list whole
    → giving_all (option_to_list whole) (record s { waiting = behind m s.waiting }) ≡ taking m s
unfolding taking
taken-is m s whole e = by whole ∙ (λ i. record (giving_all (sym e i) s) { waiting = behind m s.waiting })
  where
    by : (o : Option Frame) → giving_all (option_to_list o) (record s { waiting = behind m s.waiting })
        ≡ record (giving_all (option_to_list o) s) { waiting = behind m s.waiting }
    by None = refl
    by (Some f) = given-behind f s (behind m s.waiting)
