-- An account grows: the log knows no less, and so many more frames wait.
use Rattle.std.proofs.Common.{◌≡◌, ℕ, ◌+◌, ◌≤◌, Bool, true, false, not, ◌&&◌, ◌==◌, List, [], ◌∷◌, refl, subst, if◌then◌else◌, arith, le_refl, eqb-true}
use Rattle.std.proofs.lemmas.List.Sums.{sum_by-cons, sum_by-append}
use Rattle.h2_frames.specs.declared.frame.Frame.{Frame}
use Rattle.h2_frames.specs.declared.frame.Frame.TheVariants as frame
use Rattle.h2_model.specs.Log.{LogEntry, Handed, Owed, stream_of}
use Rattle.h2_model.specs.Streams.{is_reset, is_ended_here, resets, ends_from_here}
use Rattle.h2_model.specs.Account.{Account, is_headless}
use Rattle.h2_model.specs.Valid.{is_lost, is_lost_entry}
use Rattle.h2_model.specs.History.{frame_in, noted, hold, queue_with, handed, owing}
use Rattle.h2_laws_log.proofs.Drops.{sum-filter}
use Rattle.h2_laws_log.proofs.Sounds.{still}
use Rattle.h2_laws_log.specs.Rooms.{one_if, end_of, reset_of, tally, ends_due, resets_due, Counted}
use Rattle.h2_laws_log.proofs.RoomSums.{sum-entered}

pub record Grows (x : (Frame → ℕ) → ℕ) (a b : Account) : Type 0 where
  pub most : (m : Frame → ℕ) → tally m b ≤ x m + tally m a
  pub reset : (k : ℕ) → is_reset k a.log ≡ true → is_reset k b.log ≡ true
  pub ended : (k : ℕ) → is_ended_here k a.log ≡ true → is_ended_here k b.log ≡ true

-- no frame is added
abbrev pub none : (Frame → ℕ) → ℕ
none m = 0

-- one frame is
abbrev pub one : Frame → (Frame → ℕ) → ℕ
one f m = m f

pub stays : (a : Account) → Grows none a a
stays a = record { most = λ m. omega arith; reset = λ k r. r; ended = λ k e. e }

pub grows-on : (x y z : (Frame → ℕ) → ℕ) (a b c : Account) → ((m : Frame → ℕ) → x m + y m ≤ z m) → Grows x a b → Grows y b c
    → Grows z a c
grows-on x y z a b c l g h = record {
  most = λ m. omega (arith, l m, g.most m, h.most m);
  reset = λ k r. h.reset k (g.reset k r);
  ended = λ k e. h.ended k (g.ended k e);
}

-- The steps

pub noted-grows : (e : LogEntry) (a : Account) → Grows none a (noted e a)
unfolding noted
noted-grows e a = record {
  most = λ m. omega (
    arith,
    sum-filter (λ w. not (is_lost (e ∷ a.log) w)) (λ w. m w.frame) a.waiting,
    sum-filter (λ h. not (is_lost_entry (e ∷ a.log) h)) (λ h. m (frame_in h)) a.held,
  );
  reset = λ k r. still (resets k e) r;
  ended = λ k r. still (ends_from_here k e) r;
}

pub queued-grows : (f : Frame) (a : Account) → Grows (one f) a (queue_with f a)
queued-grows f a = record {
  most = λ m. omega (arith, sum-entered m f a.waiting);
  reset = λ k r. r;
  ended = λ k e. e;
}

pub held-grows : (e : LogEntry) (a : Account) → Grows (one (frame_in e)) a (hold e a)
held-grows e a = record {
  most = λ m. omega (
    arith,
    sum_by-append (λ h. m (frame_in h)) a.held (e ∷ []),
    sum_by-cons (λ h. m (frame_in h)) e [],
  );
  reset = λ k r. r;
  ended = λ k r. r;
}

pub noted-queued : (e : LogEntry) (f : Frame) (a : Account) → Grows (one f) a (queue_with f (noted e a))
noted-queued e f a =
    grows-on none (one f) (one f) a (noted e a) (queue_with f (noted e a)) (λ m. omega arith) (noted-grows e a)
    (queued-grows f (noted e a))

pub handed-grows : (f : Frame) (a : Account) → Grows (one f) a (handed f a)
unfolding handed
handed-grows f a = by (is_headless a (stream_of f))
  where
    by : (c : Bool) → Grows (one f) a (if c then hold (Handed f) (noted (Handed f) a) else queue_with f (noted (Handed f) a))
    by true = grows-on none (one f) (one f) a (noted (Handed f) a) (hold (Handed f) (noted (Handed f) a)) (λ m. omega arith)
        (noted-grows (Handed f) a) (held-grows (Handed f) (noted (Handed f) a))
    by false = noted-queued (Handed f) f a

pub owing-grows : (f : Frame) (a : Account) → Grows (one f) a (owing f a)
unfolding owing
owing-grows f a = by (is_headless a (stream_of f))
  where
    by : (c : Bool) → Grows (one f) a (if c then hold (Owed f) a else queue_with f (noted (Owed f) a))
    by true = held-grows (Owed f) a
    by false = noted-queued (Owed f) f a

-- What is counted

no-less : (p q : Bool) → (p ≡ true → q ≡ true) → one_if p ≤ one_if q
no-less true q h = rw (h refl) (le_refl 1)
no-less false q h = omega arith

-- no closing frame is added
pub counted-grows : (x : (Frame → ℕ) → ℕ) (a b : Account) → ((k : ℕ) → x (end_of k) ≡ 0) → ((k : ℕ) → x (reset_of k) ≡ 0)
    → Grows x a b → Counted a → Counted b
counted-grows x a b e r g c = record {
  ends = λ k. omega (arith, g.most (end_of k), e k, c.ends k, no-less (is_ended_here k a.log) (is_ended_here k b.log) (g.ended k));
  resets = λ k. omega (arith, g.most (reset_of k), r k, c.resets k, no-less (is_reset k a.log) (is_reset k b.log) (g.reset k));
  connection_ends = omega (arith, g.most (end_of 0), e 0, c.connection_ends);
  connection_resets = omega (arith, g.most (reset_of 0), r 0, c.connection_resets);
}

pub counted-stays : (a b : Account) → Grows none a b → Counted a → Counted b
counted-stays a b g c = counted-grows none a b (λ k. refl) (λ k. refl) g c

-- an end is added, of which there was none
pub counted-end : (id size : ℕ) (bytes : List ℕ) (a b : Account) → (id == 0) ≡ false → ends_due id a ≡ 0
    → is_ended_here id b.log ≡ true → Grows (one (frame.Data id bytes true size)) a b → Counted a → Counted b
counted-end id size bytes a b z n e g c = record {
  ends = λ k. by k (id == k) refl (g.most (end_of k));
  resets = λ k. omega (arith, g.most (reset_of k), c.resets k, no-less (is_reset k a.log) (is_reset k b.log) (g.reset k));
  connection_ends = omega (arith, rw z at (g.most (end_of 0)), c.connection_ends);
  connection_resets = omega (arith, g.most (reset_of 0), c.connection_resets);
}
  where
    by : (k : ℕ) (s : Bool) → (id == k) ≡ s → tally (end_of k) b ≤ one_if (s && true) + tally (end_of k) a
        → ends_due k b ≤ one_if (is_ended_here k b.log)
    by k true s l =
        let same : id ≡ k = eqb-true id k s in
        let none : ends_due k a ≡ 0 = subst (λ (j : ℕ). ends_due j a ≡ 0) same n in
        let ended : is_ended_here k b.log ≡ true = subst (λ (j : ℕ). is_ended_here j b.log ≡ true) same e in
        rw ended (omega (arith, l, none))
    by k false s l = omega (arith, l, c.ends k, no-less (is_ended_here k a.log) (is_ended_here k b.log) (g.ended k))

-- a reset is added, of which there was none
pub counted-reset : (id code : ℕ) (a b : Account) → (id == 0) ≡ false → resets_due id a ≡ 0 → is_reset id b.log ≡ true
    → Grows (one (frame.Reset id code)) a b → Counted a → Counted b
counted-reset id code a b z n e g c = record {
  ends = λ k. omega (arith, g.most (end_of k), c.ends k, no-less (is_ended_here k a.log) (is_ended_here k b.log) (g.ended k));
  resets = λ k. by k (id == k) refl (g.most (reset_of k));
  connection_ends = omega (arith, g.most (end_of 0), c.connection_ends);
  connection_resets = omega (arith, rw z at (g.most (reset_of 0)), c.connection_resets);
}
  where
    by : (k : ℕ) (s : Bool) → (id == k) ≡ s → tally (reset_of k) b ≤ one_if s + tally (reset_of k) a
        → resets_due k b ≤ one_if (is_reset k b.log)
    by k true s l =
        let same : id ≡ k = eqb-true id k s in
        let none : resets_due k a ≡ 0 = subst (λ (j : ℕ). resets_due j a ≡ 0) same n in
        let reset : is_reset k b.log ≡ true = subst (λ (j : ℕ). is_reset j b.log ≡ true) same e in
        rw reset (omega (arith, l, none))
    by k false s l = omega (arith, l, c.resets k, no-less (is_reset k a.log) (is_reset k b.log) (g.reset k))
