-- `CallsSound` is kept by each call.
use Rattle.std.proofs.Common.{◌≡◌, ℕ, ◌-◌, ◌<◌, Bool, true, false, not, ◌||◌, ◌==◌, List, [], ◌∷◌, length, drop, refl, sym, ◌∙◌, subst, if◌then◌else◌, filter, All, arith, nat_lt, ltb-true}
use Rattle.std.proofs.lemmas.List.Elements.{All-tail, All-cons, All-nil, All-filter}
use Rattle.std.proofs.lemmas.List.{length-drop}
use Rattle.h2_frames.specs.declared.frame.Frame.{Frame}
use Rattle.h2_frames.specs.declared.frame.Frame.TheVariants as frame
use Rattle.h2_frames.specs.Spelling.{spelling}
use Rattle.h2_model.specs.Log.{LogEntry, Log, Handed, Owed, is_empty, stream_of, violation}
use Rattle.h2_model.specs.Streams.{is_reset, resets}
use Rattle.h2_model.specs.Queue.{Waiting, fresh, behind, whole_within, entered}
use Rattle.h2_model.specs.Account.{Account, is_headless}
use Rattle.h2_model.specs.Valid.{Valid, is_lost, is_lost_entry}
use Rattle.h2_model.specs.History.{noted, handed, headed, given, called, Take, is_of, frame_in}
use Rattle.h2_laws_log.specs.Sound.{CallsSound, has_left, may_be_held}
use Rattle.h2_laws_log.specs.Calling.{all_entered}
use Rattle.h2_laws_log.proofs.Hand.{sunk, handed-is, all-queue-by, all-held-by}
use Rattle.h2_laws_log.proofs.Release.{all-held-still, held-still, all-all-entered, log_after, after-same}
use Rattle.h2_laws_log.proofs.Head.{headed-is}
use Rattle.h2_laws_log.proofs.Take.{given-same}
use Rattle.h2_laws_log.proofs.Queues.{all-entered}

-- a frame has a header of nine bytes
spelled : (f : Frame) → not (is_empty (spelling f)) ≡ true
spelled (frame.Data id bytes last size) = refl
spelled (frame.Headers id block last ends) = refl
spelled (frame.Priority id) = refl
spelled (frame.Reset id code) = refl
spelled (frame.Settings list) = refl
spelled frame.SettingsAck = refl
spelled (frame.Push id) = refl
spelled (frame.Ping ack bytes) = refl
spelled (frame.GoAway last code) = refl
spelled (frame.Window id n) = refl
spelled (frame.Continuation id block ends) = refl
spelled (frame.Unknown kind) = refl

pub fresh-left : (f : Frame) → has_left (fresh f) ≡ true
fresh-left (frame.Headers id block last ends) = refl
fresh-left f = spelled f

-- a frame was handed over, or an entry noted

pub still : {r : Bool} (x : Bool) → r ≡ true → (x || r) ≡ true
still true e = refl
still false e = e

pub noted-sound : (e : LogEntry) (a : Account) → violation (e ∷ a.log) ≡ violation a.log → CallsSound a → CallsSound (noted e a)
unfolding noted
noted-sound e a n s = record {
  left = All-filter (λ w. not (is_lost (e ∷ a.log) w)) (λ w. has_left w ≡ true) a.waiting s.left;
  holds = All-filter (λ x. not (is_lost_entry (e ∷ a.log) x)) (λ x. may_be_held (e ∷ a.log) x ≡ true) a.held
      (all-held-still a.log (e ∷ a.log) a.held (λ k r. still (resets k e) r) s.holds);
  lost = λ v. s.lost (sym n ∙ v);
}

pub handed-sound : (f : Frame) (a : Account) → may_be_held a.log (Handed f) ≡ true → CallsSound a → CallsSound (handed f a)
unfolding noted
handed-sound f a m s =
    subst CallsSound (sym (handed-is f a))
    (by (is_headless a (stream_of f)) (noted (Handed f) a) (λ k r. still (resets k (Handed f)) r)
    (noted-sound (Handed f) a refl s))
  where
    by : (c : Bool) (b : Account) → ((k : ℕ) → is_reset k a.log ≡ true → is_reset k b.log ≡ true) → CallsSound b
        → CallsSound (sunk c f b)
    by c b r t = record {
      left = all-queue-by (λ w. has_left w ≡ true) (λ w h. h) c f b.waiting (fresh-left f) t.left;
      holds = all-held-by (λ e. may_be_held b.log e ≡ true) c f b.held (held-still a.log b.log r (Handed f) m) t.holds;
      lost = t.lost;
    }

-- a block was handed over

after-resets : (held : List LogEntry) (log : Log) (k : ℕ) → is_reset k log ≡ true → is_reset k (log_after held log) ≡ true
after-resets [] log k r = r
after-resets (Owed f ∷ held) log k r = after-resets held (Owed f ∷ log) k (still (resets k (Owed f)) r)
after-resets (e ∷ held) log k r = after-resets held log k r

fresh-lefts : (held : List LogEntry) → All (λ e. has_left (fresh (frame_in e)) ≡ true) held
fresh-lefts [] = All-nil (λ e. has_left (fresh (frame_in e)) ≡ true)
fresh-lefts (e ∷ held) =
    All-cons (λ x. has_left (fresh (frame_in x)) ≡ true) e held (fresh-left (frame_in e)) (fresh-lefts held)

pub headed-sound : (id : ℕ) (block : List ℕ) (last ends : Bool) (a : Account) → Valid a → CallsSound a
    → CallsSound (headed id (frame.Headers id block last ends) a)
headed-sound id block last ends a v s =
    subst CallsSound (sym (headed-is id block last ends a v s.holds)) (by (frame.Headers id block last ends))
  where
    by : (f : Frame) → CallsSound
        (record a {
          log = log_after (filter (is_of id) a.held) (Handed f ∷ a.log);
          waiting = all_entered (filter (is_of id) a.held) (entered f a.waiting);
          held = filter (λ e. not (is_of id e)) a.held;
        })
    by f = record {
      left = all-all-entered (λ w. has_left w ≡ true) (λ w h. h) (filter (is_of id) a.held) (entered f a.waiting)
          (fresh-lefts (filter (is_of id) a.held))
          (all-entered (λ w. has_left w ≡ true) (λ w h. h) f a.waiting (fresh-left f) s.left);
      holds = all-held-still a.log (log_after (filter (is_of id) a.held) (Handed f ∷ a.log))
          (filter (λ e. not (is_of id e)) a.held)
          (λ k r. after-resets (filter (is_of id) a.held) (Handed f ∷ a.log) k (still (resets k (Handed f)) r))
          (All-filter (λ e. not (is_of id e)) (λ e. may_be_held a.log e ≡ true) a.held s.holds);
      lost = λ n. s.lost (sym (after-same violation (λ k code log r. refl) (filter (is_of id) a.held) (Handed f ∷ a.log)
          (All-filter (is_of id) (λ e. may_be_held (Handed f ∷ a.log) e ≡ true) a.held
          (all-held-still a.log (Handed f ∷ a.log) a.held (λ k r. still (resets k (Handed f)) r) s.holds))) ∙ n);
    }

-- bytes were taken

behind-left : (n : ℕ) (queue : List Waiting) → All (λ w. has_left w ≡ true) queue
    → All (λ w. has_left w ≡ true) (behind n queue)
behind-left n [] h = h
behind-left n (w ∷ queue) h =
    by (n == 0) (nat_lt n (length w.left)) refl
    (behind-left (n - length w.left) queue (All-tail (λ x. has_left x ≡ true) w queue h))
  where
    some : (xs : List ℕ) → 0 < length xs → not (is_empty xs) ≡ true
    some [] l = absurd (omega arith)
    some (x ∷ xs) l = refl

    by : (z c : Bool) → nat_lt n (length w.left) ≡ c → All (λ x. has_left x ≡ true) (behind (n - length w.left) queue)
        → All (λ x. has_left x ≡ true)
        (if z then w ∷ queue else if c then record w { left = drop n w.left; fixed = true } ∷ queue else behind
        (n - length w.left) queue)
    by true c l ih = h
    by false true l ih = All-cons (λ x. has_left x ≡ true) (record w { left = drop n w.left; fixed = true }) queue
        (some (drop n w.left)
        (let m : n < length w.left = ltb-true n (length w.left) l in omega (arith, length-drop n w.left)))
        (All-tail (λ x. has_left x ≡ true) w queue h)
    by false false l ih = ih

pub take-sound : (n : ℕ) (a : Account) → CallsSound a → CallsSound (called (Take n) a)
unfolding called
take-sound n a s = record {
  left = behind-left n a.waiting s.left;
  holds = all-held-still a.log (given (whole_within n a.waiting) a.log) a.held
      (λ k r. given-same (is_reset k) (λ f log. refl) (whole_within n a.waiting) a.log ∙ r) s.holds;
  lost = λ e. s.lost (sym (given-same violation (λ f log. refl) (whole_within n a.waiting) a.log) ∙ e);
}
