-- What was held for a stream enters the queue.
use Rattle.std.proofs.Common.{◌≡◌, ℕ, ◌+◌, Bool, true, false, not, ◌&&◌, ◌||◌, ◌==◌, List, [], ◌∷◌, refl, sym, ◌∙◌, ap, subst, All, arith, le_refl, eqb-true, true≢false}
use Rattle.std.proofs.lemmas.List.Elements.{All-head, All-tail, All-weaker}
use Rattle.h2_frames.specs.declared.frame.Frame.{Frame}
use Rattle.h2_frames.specs.declared.frame.Frame.TheVariants as frame
use Rattle.h2_model.specs.Log.{LogEntry, Log, Handed, Owed, stream_of, total}
use Rattle.h2_model.specs.Streams.{is_opened, is_reset, is_ended_by_peer, is_ended_here}
use Rattle.h2_model.specs.Queue.{Waiting, fresh, entered, queued, data_in, is_data, has_bytes, with_place}
use Rattle.h2_model.specs.Account.{Account}
use Rattle.h2_model.specs.Windows.{held_data, increment_given, connection_window, window_from}
use Rattle.h2_model.specs.History.{frame_in, queue_with, released}
use Rattle.h2_model.specs.State.{seen, streams}
use Rattle.h2_model.specs.Valid.{Valid, is_lost, is_lost_entry, update_of, updates_in}
use Rattle.h2_model.proofs.Lives.{streams-same}
use Rattle.h2_laws_log.specs.Sound.{may_be_held}
use Rattle.h2_laws_log.specs.Calling.{all_entered}
use Rattle.h2_laws_log.proofs.Queues.{queued-entered, updates-entered, all-entered, held-cons, entry_data}
use Rattle.h2_laws_log.proofs.Same.{Same, same-live, same-untouched}
use Rattle.h2_laws_log.proofs.Valids.{valid-moved}
use Rattle.h2_laws_log.proofs.Hand.{noted-kept, kept-waiting, kept-entries, fixed-kept}

-- A reset that was held is of a stream that is reset

reset-again : (n : ℕ) (log : Log) (id : ℕ) → is_reset id log ≡ true → ((id == n) || is_reset n log) ≡ is_reset n log
reset-again n log id r = by (id == n) refl
  where
    by : (c : Bool) → (id == n) ≡ c → (c || is_reset n log) ≡ is_reset n log
    by true e = sym (subst (λ k. is_reset k log ≡ true) (eqb-true id n e) r)
    by false e = refl

pub owed-again : (f : Frame) (log : Log) → may_be_held log (Owed f) ≡ true → (k : ℕ) → is_reset k (Owed f ∷ log)
    ≡ is_reset k log
owed-again (frame.Reset id code) log t k = reset-again k log id t
owed-again f log t k = refl

pub held-still : (log more : Log) → ((k : ℕ) → is_reset k log ≡ true → is_reset k more ≡ true) → (e : LogEntry)
    → may_be_held log e ≡ true → may_be_held more e ≡ true
held-still log more r (Handed (frame.Data id bytes last size)) t = refl
held-still log more r (Handed (frame.Reset id code)) t = refl
held-still log more r (Owed (frame.Reset id code)) t = r id t
held-still log more r e t = absurd cc

pub all-held-still : (log more : Log) (held : List LogEntry) → ((k : ℕ) → is_reset k log ≡ true → is_reset k more ≡ true)
    → All (λ e. may_be_held log e ≡ true) held → All (λ e. may_be_held more e ≡ true) held
all-held-still log more held r h =
    All-weaker (λ e. may_be_held log e ≡ true) (λ e. may_be_held more e ≡ true) (held-still log more r) held h

-- The log once all were released

abbrev pub log_after : List LogEntry → Log → Log
log_after [] log = log
log_after (Owed f ∷ held) log = log_after held (Owed f ∷ log)
log_after (e ∷ held) log = log_after held log

-- what a reset that is owed once more doesn't change, the release doesn't
pub after-same : {A : Type 0} (g : Log → A)
    → ((id code : ℕ) (log : Log) → is_reset id log ≡ true → g (Owed (frame.Reset id code) ∷ log) ≡ g log)
    → (held : List LogEntry) (log : Log) → All (λ e. may_be_held log e ≡ true) held → g (log_after held log) ≡ g log
after-same g same [] log h = refl
after-same g same (Owed f ∷ held) log h =
    by f (All-head (λ e. may_be_held log e ≡ true) (Owed f) held h)
    (after-same g same held (Owed f ∷ log)
    (all-held-still log (Owed f ∷ log) held
    (λ k r. owed-again f log (All-head (λ e. may_be_held log e ≡ true) (Owed f) held h) k ∙ r)
    (All-tail (λ e. may_be_held log e ≡ true) (Owed f) held h)))
  where
    by : (f : Frame) → may_be_held log (Owed f) ≡ true → g (log_after held (Owed f ∷ log)) ≡ g (Owed f ∷ log)
        → g (log_after held (Owed f ∷ log)) ≡ g log
    by (frame.Reset id code) t ih = ih ∙ same id code log t
    by f t ih = absurd cc
after-same g same (e ∷ held) log h = after-same g same held log (All-tail (λ e. may_be_held log e ≡ true) e held h)

-- What enters isn't lost

pub fresh-kept : (log : Log) (e : LogEntry) → is_lost_entry log e ≡ false → is_lost log (fresh (frame_in e)) ≡ false
fresh-kept log e h = by (is_data (frame_in e)) (has_bytes (frame_in e)) (is_reset (stream_of (frame_in e)) log) h
  where
    by : (d b r : Bool) → (b && r) ≡ false → (d && true && b && r) ≡ false
    by true b r x = x
    by false b r x = refl

pub all-all-entered : (P : Waiting → Type 0) → ((w : Waiting) → P w → P (with_place w))
    → (held : List LogEntry) (queue : List Waiting)
    → All (λ e. P (fresh (frame_in e))) held → All P queue → All P (all_entered held queue)
all-all-entered P fixes [] queue g h = h
all-all-entered P fixes (e ∷ held) queue g h =
    all-all-entered P fixes held (entered (frame_in e) queue) (All-tail (λ x. P (fresh (frame_in x))) e held g)
    (all-entered P fixes (frame_in e) queue (All-head (λ x. P (fresh (frame_in x))) e held g) h)

-- and its DATA counted before
data-held : (n : ℕ) (log : Log) (e : LogEntry) → may_be_held log e ≡ true → data_in n (frame_in e) ≡ entry_data n e
data-held n log (Handed f) t = refl
data-held n log (Owed (frame.Reset id code)) t = refl
data-held n log (Owed f) t = absurd cc
data-held n log e t = absurd cc

pub entered-data : (n : ℕ) (log : Log) (held : List LogEntry) (queue : List Waiting) → All (λ e. may_be_held log e ≡ true) held
    → queued n (all_entered held queue) ≡ held_data n held + queued n queue
entered-data n log [] queue h = omega arith
entered-data n log (e ∷ held) queue h =
    let rest : queued n (all_entered held (entered (frame_in e) queue))
    ≡ held_data n held + queued n (entered (frame_in e) queue) =
    entered-data n log held (entered (frame_in e) queue) (All-tail (λ x. may_be_held log x ≡ true) e held h) in
    let one : queued n (entered (frame_in e) queue) ≡ data_in n (frame_in e) + queued n queue =
    queued-entered n (frame_in e) queue in
    let same : data_in n (frame_in e) ≡ entry_data n e =
    data-held n log e (All-head (λ x. may_be_held log x ≡ true) e held h) in
    rw (held-cons n e held) (omega (arith, rest, one, same))

-- no update of a window was held
no-update : (n : ℕ) (log : Log) (e : LogEntry) → may_be_held log e ≡ true → update_of n (fresh (frame_in e)) ≡ 0
no-update n log (Handed (frame.Data id bytes last size)) t = refl
no-update n log (Handed (frame.Reset id code)) t = refl
no-update n log (Owed (frame.Reset id code)) t = refl
no-update n log e t = absurd cc

pub entered-updates : (n : ℕ) (log : Log) (held : List LogEntry) (queue : List Waiting)
    → All (λ e. may_be_held log e ≡ true) held
    → updates_in n (all_entered held queue) ≡ updates_in n queue
entered-updates n log [] queue h = refl
entered-updates n log (e ∷ held) queue h =
    let none : update_of n (fresh (frame_in e)) ≡ 0 =
    no-update n log e (All-head (λ x. may_be_held log x ≡ true) e held h) in
    entered-updates n log held (entered (frame_in e) queue) (All-tail (λ x. may_be_held log x ≡ true) e held h)
    ∙ updates-entered n (frame_in e) queue ∙ ap (λ k. k + updates_in n queue) none ∙ omega arith

-- The release

pub record Clean (held : List LogEntry) (a : Account) : Type 0 where
  pub waiting : All (λ w. is_lost a.log w ≡ false) a.waiting
  pub others : All (λ e. is_lost_entry a.log e ≡ false) a.held
  pub kept : All (λ e. is_lost_entry a.log e ≡ false) held
  pub holds : All (λ e. may_be_held a.log e ≡ true) held

pub released-is : (held : List LogEntry) (a : Account) → Clean held a
    → released held a ≡ record a { log = log_after held a.log; waiting = all_entered held a.waiting }
released-is [] a c = refl
released-is (Owed f ∷ held) a c =
    ap (λ b. released held (queue_with f b)) (noted-kept (Owed f) a c.waiting c.others again)
    ∙ released-is held (record a { log = Owed f ∷ a.log; waiting = entered f a.waiting }) (record {
      waiting = all-entered (λ w. is_lost (Owed f ∷ a.log) w ≡ false) (fixed-kept (Owed f ∷ a.log)) f a.waiting
          (ap (λ x. is_data f && true && has_bytes f && x) (again (stream_of f))
          ∙ fresh-kept a.log (Owed f) (All-head (λ e. is_lost_entry a.log e ≡ false) (Owed f) held c.kept))
          (kept-waiting (Owed f) a.log a.waiting again c.waiting);
      others = kept-entries (Owed f) a.log a.held again c.others;
      kept = kept-entries (Owed f) a.log held again (All-tail (λ e. is_lost_entry a.log e ≡ false) (Owed f) held c.kept);
      holds = all-held-still a.log (Owed f ∷ a.log) held (λ k r. again k ∙ r)
          (All-tail (λ e. may_be_held a.log e ≡ true) (Owed f) held c.holds);
    })
  where
    again : (k : ℕ) → is_reset k (Owed f ∷ a.log) ≡ is_reset k a.log
    again = owed-again f a.log (All-head (λ e. may_be_held a.log e ≡ true) (Owed f) held c.holds)
released-is (e ∷ held) a c = released-is held (record a { waiting = entered (frame_in e) a.waiting }) (record {
  waiting = all-entered (λ w. is_lost a.log w ≡ false) (fixed-kept a.log) (frame_in e) a.waiting
      (fresh-kept a.log e (All-head (λ x. is_lost_entry a.log x ≡ false) e held c.kept)) c.waiting;
  others = c.others;
  kept = All-tail (λ x. is_lost_entry a.log x ≡ false) e held c.kept;
  holds = All-tail (λ x. may_be_held a.log x ≡ true) e held c.holds;
})

-- A reset that is owed once more changes nothing

again-same : (id code : ℕ) (a : Account) → is_reset id a.log ≡ true → (n : ℕ)
    → Same n a (record a { log = Owed (frame.Reset id code) ∷ a.log })
again-same id code a r n = record {
  opened = refl;
  reset = reset-again n a.log id r;
  peer_ended = refl;
  here_ended = refl;
  heads = refl;
  increments = refl;
  sent = refl;
  received = refl;
  given = refl;
  owed = refl;
}

again-seen : (id code : ℕ) (a : Account) → is_reset id a.log ≡ true
    → seen (record a { log = Owed (frame.Reset id code) ∷ a.log }) ≡ seen a
unfolding seen connection_window window_from
again-seen id code a r =
    let b : Account = record a { log = Owed (frame.Reset id code) ∷ a.log } in
    let s : streams b ≡ streams a = streams-same a b refl (λ n. same-live n a b (again-same id code a r n)) in
    λ i. record (seen a) { streams = s i }

again-lives : (o x r p : Bool) → (x || r) ≡ r → (o && not (x || r) && p) ≡ true → (o && not r && p) ≡ true
again-lives o x r p e h = subst (λ y. (o && not y && p) ≡ true) e h

again-valid : (id code : ℕ) (a : Account) → is_reset id a.log ≡ true → Valid a
    → Valid (record a { log = Owed (frame.Reset id code) ∷ a.log })
again-valid id code a r v = valid-moved a (record a { log = Owed (frame.Reset id code) ∷ a.log }) v (record {
  opened = refl;
  untouched = λ n l o u. same-untouched n a (record a { log = Owed (frame.Reset id code) ∷ a.log })
      (again-same id code a r n) u;
  lives = λ n. again-lives (is_opened n a.log) (id == n) (is_reset n a.log)
      (not (is_ended_by_peer n a.log && is_ended_here n a.log)) (reset-again n a.log id r);
  received = λ n. refl;
  given = λ n. le_refl (total (increment_given n) a.log);
  owed = λ n. refl;
  waiting = v.waiting;
  held = v.held;
  waiting_kept = kept-waiting (Owed (frame.Reset id code)) a.log a.waiting (λ k. reset-again k a.log id r) v.waiting_kept;
  held_kept = kept-entries (Owed (frame.Reset id code)) a.log a.held (λ k. reset-again k a.log id r) v.held_kept;
  held_owed = v.held_owed;
  updates = v.updates;
})

pub after-seen : (held : List LogEntry) (a : Account) → All (λ e. may_be_held a.log e ≡ true) held
    → seen (record a { log = log_after held a.log }) ≡ seen a
after-seen held a h =
    after-same (λ log. seen (record a { log = log }))
    (λ id code log r. again-seen id code (record a { log = log }) r) held a.log h

pub after-valid : (held : List LogEntry) (a : Account) → All (λ e. may_be_held a.log e ≡ true) held → Valid a
    → Valid (record a { log = log_after held a.log })
after-valid [] a h v = v
after-valid (Owed (frame.Reset id code) ∷ held) a h v =
    after-valid held (record a { log = Owed (frame.Reset id code) ∷ a.log })
    (all-held-still a.log (Owed (frame.Reset id code) ∷ a.log) held
    (λ k r. reset-again k a.log id (All-head (λ e. may_be_held a.log e ≡ true) (Owed (frame.Reset id code)) held h) ∙ r)
    (All-tail (λ e. may_be_held a.log e ≡ true) (Owed (frame.Reset id code)) held h))
    (again-valid id code a (All-head (λ e. may_be_held a.log e ≡ true) (Owed (frame.Reset id code)) held h) v)
after-valid (Owed f ∷ held) a h v = absurd (true≢false (sym (All-head (λ e. may_be_held a.log e ≡ true) (Owed f) held h)))
after-valid (e ∷ held) a h v = after-valid held a (All-tail (λ x. may_be_held a.log x ≡ true) e held h) v
