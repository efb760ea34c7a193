-- A frame is handed over: how the log's new entry, and the frame's place, change what is kept.
use Rattle.std.proofs.Common.{◌≡◌, ℕ, ◌+◌, Bool, true, false, not, ◌&&◌, ◌||◌, ◌==◌, List, [], ◌∷◌, ◌++◌, refl, ◌∙◌, ap, if◌then◌else◌, All, arith}
use borrow.Author.Tests.{not-true}
use Rattle.std.proofs.lemmas.List.Elements.{All-cons, All-nil, All-append, All-weaker}
use Rattle.h2_frames.specs.declared.frame.Frame.{Frame}
use Rattle.h2_frames.specs.declared.frame.Frame.TheVariants as frame
use Rattle.h2_model.specs.Log.{LogEntry, Log, Handed, stream_of}
use Rattle.h2_model.specs.Streams.{opened, is_opened, is_block_of, has_head, is_live, is_reset, is_ended_by_peer, is_ended_here}
use Rattle.h2_model.specs.Queue.{Waiting, fresh, entered, queued, data_in, is_free, has_bytes, is_reset_frame, with_place, is_data, is_block}
use Rattle.h2_model.specs.Account.{Account, is_headless}
use Rattle.h2_model.specs.Windows.{held_data}
use Rattle.h2_model.specs.History.{frame_in, noted, handed, hold, queue_with}
use Rattle.h2_model.specs.State.{seen}
use Rattle.h2_model.specs.Moves.{handing, sending, kept_waiting, kept_held, is_dropped, is_dropped_entry}
use Rattle.h2_model.specs.Valid.{Valid, is_lost, is_lost_entry, is_of_opened, update_of, updates_in}
use Rattle.h2_laws_log.proofs.Lists.{drops-none, same-filter, number-swapped, both-left, both-right}
use Rattle.h2_laws_log.proofs.Queues.{queued-entered, updates-entered, held-append, all-entered}

-- The log grows

pub kept-waiting : (e : LogEntry) (log : Log) (queue : List Waiting) → ((k : ℕ) → is_reset k (e ∷ log) ≡ is_reset k log)
    → All (λ w. is_lost log w ≡ false) queue → All (λ w. is_lost (e ∷ log) w ≡ false) queue
kept-waiting e log queue r h =
    All-weaker (λ w. is_lost log w ≡ false) (λ w. is_lost (e ∷ log) w ≡ false)
    (λ w n. ap (λ x. is_free w && has_bytes w.frame && x) (r (stream_of w.frame)) ∙ n) queue h

pub kept-entries : (e : LogEntry) (log : Log) (held : List LogEntry) → ((k : ℕ) → is_reset k (e ∷ log) ≡ is_reset k log)
    → All (λ x. is_lost_entry log x ≡ false) held → All (λ x. is_lost_entry (e ∷ log) x ≡ false) held
kept-entries e log held r h =
    All-weaker (λ x. is_lost_entry log x ≡ false) (λ x. is_lost_entry (e ∷ log) x ≡ false)
    (λ x n. ap (λ y. has_bytes (frame_in x) && y) (r (stream_of (frame_in x))) ∙ n) held h

-- an entry that resets no stream anew drops nothing
pub noted-kept : (e : LogEntry) (a : Account) → All (λ w. is_lost a.log w ≡ false) a.waiting
    → All (λ x. is_lost_entry a.log x ≡ false) a.held
    → ((k : ℕ) → is_reset k (e ∷ a.log) ≡ is_reset k a.log) → noted e a ≡ record a { log = e ∷ a.log }
unfolding noted
noted-kept e a q h r = λ i. record a {
  log = e ∷ a.log;
  waiting = drops-none (is_lost (e ∷ a.log)) a.waiting (kept-waiting e a.log a.waiting r q) i;
  held = drops-none (is_lost_entry (e ∷ a.log)) a.held (kept-entries e a.log a.held r h) i;
}

pub noted-plain : (e : LogEntry) (a : Account) → Valid a → ((k : ℕ) → is_reset k (e ∷ a.log) ≡ is_reset k a.log) → noted e a
    ≡ record a { log = e ∷ a.log }
noted-plain e a v r = noted-kept e a v.waiting_kept v.held_kept r

pub handed-resets-none : (f : Frame) → is_reset_frame f ≡ false → (k : ℕ) (log : Log) → is_reset k (Handed f ∷ log)
    ≡ is_reset k log
handed-resets-none (frame.Reset id code) e k log = absurd cc
handed-resets-none f e k log = refl

pub noted-handed : (f : Frame) (a : Account) → Valid a → is_reset_frame f ≡ false → noted (Handed f) a
    ≡ record a { log = Handed f ∷ a.log }
noted-handed f a v e = noted-plain (Handed f) a v (λ k. handed-resets-none f e k a.log)

pub now-dropped : (x y r s t : Bool) → s ≡ t → (x && y && r) ≡ false → not (x && y && (s || r)) ≡ not (x && y && t)
now-dropped true true true s t e h = absurd cc
now-dropped true true false true t e h = ap not e
now-dropped true true false false t e h = ap not e
now-dropped true false r s t e h = refl
now-dropped false y r s t e h = refl

-- a reset drops the bytes of its stream
pub noted-reset : (id code : ℕ) (a : Account) → Valid a
    → noted (Handed (frame.Reset id code)) a
    ≡ record a {
      log = Handed (frame.Reset id code) ∷ a.log;
      waiting = kept_waiting id a.waiting;
      held = kept_held id a.held;
    }
unfolding noted
noted-reset id code a v = λ i. record a {
  log = Handed (frame.Reset id code) ∷ a.log;
  waiting = same-filter
      (λ w. not (is_free w && has_bytes w.frame && ((id == stream_of w.frame) || is_reset (stream_of w.frame) a.log)))
      (λ w. not (is_dropped id w)) a.waiting
      (All-weaker (λ w. is_lost a.log w ≡ false)
      (λ w. not (is_free w && has_bytes w.frame && ((id == stream_of w.frame) || is_reset (stream_of w.frame) a.log))
      ≡ not (is_dropped id w))
      (λ w h. now-dropped (is_free w) (has_bytes w.frame) (is_reset (stream_of w.frame) a.log) (id == stream_of w.frame)
      (stream_of w.frame == id) (number-swapped id (stream_of w.frame)) h) a.waiting v.waiting_kept) i;
  held = same-filter (λ e. not
      (has_bytes (frame_in e) && ((id == stream_of (frame_in e)) || is_reset (stream_of (frame_in e)) a.log)))
      (λ e. not (is_dropped_entry id e)) a.held
      (All-weaker (λ e. is_lost_entry a.log e ≡ false)
      (λ e. not (has_bytes (frame_in e) && ((id == stream_of (frame_in e)) || is_reset (stream_of (frame_in e)) a.log))
      ≡ not (is_dropped_entry id e))
      (λ e h. now-dropped true (has_bytes (frame_in e)) (is_reset (stream_of (frame_in e)) a.log)
      (id == stream_of (frame_in e)) (stream_of (frame_in e) == id)
      (number-swapped id (stream_of (frame_in e))) h) a.held v.held_kept) i;
}

-- The frame takes its place

abbrev pub queue_by : Bool → Frame → List Waiting → List Waiting
queue_by c f queue = if c then queue else entered f queue

abbrev pub held_by : Bool → Frame → List LogEntry → List LogEntry
held_by c f held = if c then held ++ Handed f ∷ [] else held

abbrev pub sunk : Bool → Frame → Account → Account
sunk c f b = record b { waiting = queue_by c f b.waiting; held = held_by c f b.held }

pub handed-is : (f : Frame) (a : Account) → handed f a ≡ sunk (is_headless a (stream_of f)) f (noted (Handed f) a)
unfolding handed
handed-is f a = by (is_headless a (stream_of f)) (noted (Handed f) a)
  where
    by : (c : Bool) (b : Account) → (if c then hold (Handed f) b else queue_with f b) ≡ sunk c f b
    by true b = refl
    by false b = refl

pub sunk-data : (n : ℕ) (c : Bool) (f : Frame) (queue : List Waiting) (held : List LogEntry)
    → queued n (queue_by c f queue) + held_data n (held_by c f held) ≡ queued n queue + held_data n held + data_in n f
sunk-data n true f queue held = rw (held-append n held (Handed f ∷ [])) (omega arith)
sunk-data n false f queue held = rw (queued-entered n f queue) (omega arith)

pub sunk-updates : (n : ℕ) (c : Bool) (f : Frame) (queue : List Waiting) → update_of n (fresh f) ≡ 0
    → updates_in n (queue_by c f queue) ≡ updates_in n queue
sunk-updates n true f queue z = refl
sunk-updates n false f queue z = omega (arith, updates-entered n f queue, z)

pub all-queue-by : (P : Waiting → Type 0) → ((w : Waiting) → P w → P (with_place w))
    → (c : Bool) (f : Frame) (queue : List Waiting)
    → P (fresh f) → All P queue → All P (queue_by c f queue)
all-queue-by P fixes true f queue p h = h
all-queue-by P fixes false f queue p h = all-entered P fixes f queue p h

pub all-held-by : (P : LogEntry → Type 0) → (c : Bool) (f : Frame) (held : List LogEntry) → P (Handed f) → All P held
    → All P (held_by c f held)
all-held-by P true f held p h = All-append P held (Handed f ∷ []) h (All-cons P (Handed f) [] p (All-nil P))
all-held-by P false f held p h = h

-- What a live stream is

pub live-not-reset : (id : ℕ) (log : Log) → is_live id log ≡ true → is_reset id log ≡ false
live-not-reset id log l =
    not-true (is_reset id log)
    (both-right (is_opened id log) (not (is_reset id log))
    (both-left (is_opened id log && not (is_reset id log)) (not (is_ended_by_peer id log && is_ended_here id log)) l))

pub opened-known : (id : ℕ) (log : Log) → is_opened id log ≡ true → is_of_opened log id ≡ true
opened-known id log o = by (id == 0)
  where
    by : (c : Bool) → (c || is_opened id log) ≡ true
    by true = refl
    by false = o

-- a frame that keeps its place isn't lost
pub fixed-kept : (log : Log) (w : Waiting) → is_lost log w ≡ false → is_lost log (with_place w) ≡ false
fixed-kept log w h = by (is_data w.frame) (has_bytes w.frame) (is_reset (stream_of w.frame) log)
  where
    by : (d b r : Bool) → (d && false && b && r) ≡ false
    by true b r = refl
    by false b r = refl

pub handing-is : (c : Bool) (f : Frame) (a : Account) → handing c f (seen a)
    ≡ record (sending f (seen a)) {
      waiting = queue_by c f (sending f (seen a)).waiting;
      held = held_by c f (sending f (seen a)).held;
    }
unfolding handing
handing-is true f a = refl
handing-is false f a = refl

-- another frame than a reset
pub handed-plain : (f : Frame) (a : Account) → Valid a → is_reset_frame f ≡ false
    → handed f a ≡ sunk (is_headless a (stream_of f)) f (record a { log = Handed f ∷ a.log })
handed-plain f a v e = handed-is f a ∙ ap (sunk (is_headless a (stream_of f)) f) (noted-handed f a v e)

-- What stays

pub opened-stays : (f : Frame) (a : Account) → opened (handed f a).log ≡ opened a.log
unfolding noted
opened-stays f a = ap (λ b. opened b.log) (handed-is f a)

pub headless-stays : (f : Frame) (a : Account) (k : ℕ) → is_block f ≡ false → is_headless (handed f a) k ≡ is_headless a k
unfolding noted
headless-stays f a k e = ap (λ b. is_headless b k) (handed-is f a) ∙ by f e
  where
    by : (g : Frame) → is_block g ≡ false
        → (a.client && is_opened k a.log && not (is_block_of k (Handed g) || has_head k a.log))
        ≡ (a.client && is_opened k a.log && not (has_head k a.log))
    by (frame.Headers id block last ends) x = absurd cc
    by g x = refl
