-- Frames are held for headless streams alone, and a head is one of an opened stream: whatever comes in and is called.
use Rattle.std.proofs.Common.{◌≡◌, ℕ, Bool, true, false, not, ◌&&◌, ◌||◌, ◌==◌, List, [], ◌∷◌, ◌++◌, length, Option, Some, None, refl, sym, ◌∙◌, ap, subst, if◌then◌else◌, filter, nat_le, All, eqb-true, true≢false}
use borrow.Author.Tests.{not-true}
use Rattle.std.specs.List.{list_any, cons_option}
use Rattle.std.proofs.Math.Bool.{or-true}
use Rattle.std.proofs.lemmas.List.Elements.{All-head, All-tail, All-nil, All-cons, All-append, All-filter, All-weaker}
use Rattle.h2_frames.specs.declared.frame.Frame.{Frame}
use Rattle.h2_frames.specs.declared.frame.Frame.TheVariants as frame
use Rattle.h2_model.specs.declared.answers.Event.{Event}
use Rattle.h2_model.specs.Codes.{refused_stream}
use Rattle.h2_model.specs.Log.{LogEntry, Log, Opened, Received, Block, Handed, Owed, Given, Reported, stream_of}
use Rattle.h2_model.specs.Streams.{opening, opened, is_opened, is_block_of, has_head, live_streams}
use Rattle.h2_model.specs.Blocks.{OpenBlock, whole_block}
use Rattle.h2_model.specs.Queue.{is_block, whole_within}
use Rattle.h2_model.specs.Account.{Account, is_headless}
use Rattle.h2_model.specs.Violations.{violation_of}
use Rattle.h2_model.specs.Duties.{owed_for, events_of}
use Rattle.h2_model.specs.History.{frame_in, noted, hold, queue_with, handed, owing, owing_all, reporting, reporting_all, opened_by, with_opening, with_block, accepted, arrived, arrived_by, violated, answered, called, headed, is_of, given, next_number, start, Open, Take}
use Rattle.h2_model.specs.Valid.{Valid, is_lost_entry}
use Rattle.h2_laws_log.specs.Sound.{CallsSound, may_be_held}
use Rattle.h2_laws_log.proofs.Lists.{number-swapped}
use Rattle.h2_laws_log.proofs.Release.{after-same, all-held-still}
use Rattle.h2_laws_log.proofs.Head.{headed-is, head-opened, head-headless}
use Rattle.h2_laws_log.proofs.Take.{given-same}
use Rattle.h2_laws_kept.specs.StandsFor.{KnowsHeads}

-- An entry that hands no head over

still-opened : (e : LogEntry) (log : Log) (k : ℕ) → is_opened k log ≡ true → is_opened k (e ∷ log) ≡ true
still-opened e log k h = by (opening e)
  where
    by : (o : Option ℕ) → list_any (λ n. n == k) (cons_option o (opened log)) ≡ true
    by None = h
    by (Some n) = rw h (or-true (n == k))

less-opened : (e : LogEntry) (log : Log) (k : ℕ) → is_opened k (e ∷ log) ≡ false → is_opened k log ≡ false
less-opened e log k h = by (is_opened k log) refl
  where
    by : (c : Bool) → is_opened k log ≡ c → is_opened k log ≡ false
    by true o = absurd (true≢false (sym (still-opened e log k o) ∙ h))
    by false o = o

still-headless : (client o p h q : Bool) → (o ≡ true → p ≡ true) → q ≡ h → (client && o && not h) ≡ true
    → (client && p && not q) ≡ true
still-headless true true p h q m e l = rw (m refl, e) l
still-headless true false p h q m e l = absurd cc
still-headless false o p h q m e l = absurd cc

headless-on : (e : LogEntry) (a : Account) → ((k : ℕ) → is_block_of k e ≡ false) → (k : ℕ) → is_headless a k ≡ true
    → is_headless (noted e a) k ≡ true
unfolding noted
headless-on e a n k l = still-headless a.client (is_opened k a.log) (is_opened k (e ∷ a.log)) (has_head k a.log)
    (is_block_of k e || has_head k a.log) (still-opened e a.log k) (ap (λ c. c || has_head k a.log) (n k)) l

pub noted-heads : (e : LogEntry) (a : Account) → ((k : ℕ) → is_block_of k e ≡ false) → KnowsHeads a → KnowsHeads (noted e a)
unfolding noted
noted-heads e a n h = record {
  held = All-filter (λ x. not (is_lost_entry (e ∷ a.log) x)) (λ x. is_headless (noted e a) (stream_of (frame_in x)) ≡ true)
      a.held (All-weaker (λ x. is_headless a (stream_of (frame_in x)) ≡ true)
      (λ x. is_headless (noted e a) (stream_of (frame_in x)) ≡ true)
      (λ x. headless-on e a n (stream_of (frame_in x))) a.held h.held);
  opened = λ k o. rw (n k) (h.opened k (less-opened e a.log k o));
}

-- Frames that wait and that are held

hold-heads : (e : LogEntry) (a : Account) → is_headless a (stream_of (frame_in e)) ≡ true → KnowsHeads a → KnowsHeads (hold e a)
hold-heads e a l h = record {
  held = All-append (λ x. is_headless a (stream_of (frame_in x)) ≡ true) a.held (e ∷ []) h.held
      (All-cons (λ x. is_headless a (stream_of (frame_in x)) ≡ true) e [] l
      (All-nil (λ x. is_headless a (stream_of (frame_in x)) ≡ true)));
  opened = h.opened;
}

queue-heads : (f : Frame) (a : Account) → KnowsHeads a → KnowsHeads (queue_with f a)
queue-heads f a h = record { held = h.held; opened = h.opened }

no-block : (f : Frame) → is_block f ≡ false → (k : ℕ) → is_block_of k (Handed f) ≡ false
no-block (frame.Headers id block last ends) e k = absurd cc
no-block f e k = refl

pub handed-heads : (f : Frame) (a : Account) → is_block f ≡ false → KnowsHeads a → KnowsHeads (handed f a)
unfolding handed
handed-heads f a e h = by (is_headless a (stream_of f)) refl
  where
    b : KnowsHeads (noted (Handed f) a)
    b = noted-heads (Handed f) a (no-block f e) h

    by : (c : Bool) → is_headless a (stream_of f) ≡ c
        → KnowsHeads (if c then hold (Handed f) (noted (Handed f) a) else queue_with f (noted (Handed f) a))
    by true l = hold-heads (Handed f) (noted (Handed f) a) (headless-on (Handed f) a (no-block f e) (stream_of f) l) b
    by false l = queue-heads f (noted (Handed f) a) b

owing-heads : (f : Frame) (a : Account) → KnowsHeads a → KnowsHeads (owing f a)
unfolding owing
owing-heads f a h = by (is_headless a (stream_of f)) refl
  where
    by : (c : Bool) → is_headless a (stream_of f) ≡ c
        → KnowsHeads (if c then hold (Owed f) a else queue_with f (noted (Owed f) a))
    by true l = hold-heads (Owed f) a l h
    by false l = queue-heads f (noted (Owed f) a) (noted-heads (Owed f) a (λ k. refl) h)

owing-all-heads : (fs : List Frame) (a : Account) → KnowsHeads a → KnowsHeads (owing_all fs a)
owing-all-heads [] a h = h
owing-all-heads (f ∷ fs) a h = owing-all-heads fs (owing f a) (owing-heads f a h)

reporting-all-heads : (es : List Event) (a : Account) → KnowsHeads a → KnowsHeads (reporting_all es a)
reporting-all-heads [] a h = h
reporting-all-heads (e ∷ es) a h = reporting-all-heads es (reporting e a) (told (noted (Reported e) a) (noted-heads (Reported e) a (λ k. refl) h))
  where
    told : (b : Account) → KnowsHeads b → KnowsHeads (record b { unreported = b.unreported ++ e ∷ [] })
    told b t = record { held = t.held; opened = t.opened }

block-heads : (o : Option OpenBlock) (a : Account) → KnowsHeads a → KnowsHeads (with_block o a)
block-heads None a h = h
block-heads (Some b) a h = noted-heads (Block b.stream b.bytes b.last) a (λ k. refl) h

-- What comes in

opened-by-heads : (known full : Bool) (id : ℕ) (a : Account) → KnowsHeads a → KnowsHeads (opened_by known full id a)
opened-by-heads true full id a h = h
opened-by-heads false true id a h =
    owing-heads (frame.Reset id refused_stream) (noted (Opened id) a) (noted-heads (Opened id) a (λ k. refl) h)
opened-by-heads false false id a h = noted-heads (Opened id) a (λ k. refl) h

opening-heads : (f : Frame) (a : Account) → KnowsHeads a → KnowsHeads (with_opening f a)
opening-heads (frame.Headers id part last ends) a h =
    opened-by-heads (is_opened id a.log) (nat_le 256 (length (live_streams a.log))) id a h
opening-heads f a h = h

accepted-heads : (f : Frame) (a : Account) → KnowsHeads a → KnowsHeads (accepted f a)
unfolding accepted
accepted-heads f a h =
    let b : Account = with_block (whole_block a.log f) (noted (Received f) a) in
    owing-all-heads (owed_for a f) (reporting_all (events_of a f) b)
    (reporting-all-heads (events_of a f) b
    (block-heads (whole_block a.log f) (noted (Received f) a) (noted-heads (Received f) a (λ k. refl) h)))

pub violated-heads : (code : ℕ) (a : Account) → KnowsHeads a → KnowsHeads (violated code a)
violated-heads code a h =
    record { held = All-nil (λ x. is_headless (violated code a) (stream_of (frame_in x)) ≡ true); opened = h.opened }

pub arrived-heads : (f : Frame) (a : Account) → KnowsHeads a → KnowsHeads (arrived f a)
unfolding arrived
arrived-heads f a h = by (violation_of a f)
  where
    by : (o : Option ℕ) → KnowsHeads (arrived_by o f a)
    by None = accepted-heads f (with_opening f a) (opening-heads f a h)
    by (Some code) = violated-heads code a h

pub answered-heads : (a : Account) → KnowsHeads a → KnowsHeads (answered a)
answered-heads a h = record { held = h.held; opened = h.opened }

-- Other calls

pub start-heads : (client : Bool) → KnowsHeads (start client)
unfolding start
start-heads client =
    record { held = All-nil (λ x. is_headless (start client) (stream_of (frame_in x)) ≡ true); opened = λ k o. refl }

pub open-heads : (a : Account) → KnowsHeads a → KnowsHeads (called Open a)
unfolding called
open-heads a h = noted-heads (Opened (next_number a)) a (λ k. refl) h

pub take-heads : (n : ℕ) (a : Account) → KnowsHeads a → KnowsHeads (called (Take n) a)
unfolding called
take-heads n a h = record {
  held = All-weaker (λ x. is_headless a (stream_of (frame_in x)) ≡ true)
      (λ x. is_headless (called (Take n) a) (stream_of (frame_in x)) ≡ true)
      (λ x l. same (λ log. a.client && is_opened (stream_of (frame_in x)) log && not (has_head (stream_of (frame_in x)) log))
      (λ f log. refl) ∙ l) a.held h.held;
  opened = λ k o. same (has_head k) (λ f log. refl) ∙ h.opened k (sym (same (is_opened k) (λ f log. refl)) ∙ o);
}
  where
    same : {A : Type 0} (g : Log → A) → ((f : Frame) (log : Log) → g (Given f ∷ log) ≡ g log)
        → g (given (whole_within n a.waiting) a.log) ≡ g a.log
    same g s = given-same g s (whole_within n a.waiting) a.log

-- A block goes out, and what was held for it

all-filtered : {X : Type 0} (P Q : X → Type 0) (p : X → Bool) → ((x : X) → P x → p x ≡ true → Q x) → (xs : List X) → All P xs
    → All Q (filter p xs)
all-filtered P Q p f [] h = All-nil Q
all-filtered {X = X} P Q p f (x ∷ xs) h = by (p x) refl (all-filtered P Q p f xs (All-tail P x xs h))
  where
    by : (c : Bool) → p x ≡ c → All Q (filter p xs) → All Q (if c then x ∷ filter p xs else filter p xs)
    by true e ih = All-cons Q x (filter p xs) (f x (All-head P x xs h) e) ih
    by false e ih = ih

module _ (id : ℕ) (block : List ℕ) (last ends : Bool) (a : Account) (v : Valid a) (s : CallsSound a)
    (o : is_opened id a.log ≡ true) (h : KnowsHeads a) where
  abbrev head : Frame
  head = frame.Headers id block last ends

  abbrev b : Account
  b = headed id head a

  lacks : (k : ℕ) → is_headless b k ≡ (if id == k then false else is_headless a k)
  lacks k = head-headless id block last ends a v s.holds k

  held-is : b.held ≡ filter (λ e. not (is_of id e)) a.held
  held-is = ap (λ c. c.held) (headed-is id block last ends a v s.holds)

  holds-out : All (λ e. may_be_held (Handed head ∷ a.log) e ≡ true) (filter (is_of id) a.held)
  holds-out = all-held-still a.log (Handed head ∷ a.log) (filter (is_of id) a.held) (λ k r. r)
      (All-filter (is_of id) (λ e. may_be_held a.log e ≡ true) a.held s.holds)

  heads-are : (k : ℕ) → has_head k b.log ≡ ((id == k) || has_head k a.log)
  heads-are k =
      ap (λ c. has_head k c.log) (headed-is id block last ends a v s.holds)
      ∙ after-same (has_head k) (λ n code log r. refl) (filter (is_of id) a.held) (Handed head ∷ a.log) holds-out

  opened-is : opened b.log ≡ opened a.log
  opened-is = head-opened id block last ends a v s.holds

  still-lacks : (e : LogEntry) → is_headless a (stream_of (frame_in e)) ≡ true → not (is_of id e) ≡ true
      → is_headless b (stream_of (frame_in e)) ≡ true
  still-lacks e l n =
      lacks (stream_of (frame_in e))
      ∙ rw (number-swapped id (stream_of (frame_in e)), not-true (is_of id e) n) l

  other : (k : ℕ) → is_opened k a.log ≡ false → (id == k) ≡ false
  other k u = by (id == k) refl
    where
      by : (c : Bool) → (id == k) ≡ c → (id == k) ≡ false
      by true e = absurd (true≢false (sym o ∙ ap (λ n. is_opened n a.log) (eqb-true id k e) ∙ u))
      by false e = e

  pub headed-heads : KnowsHeads b
  headed-heads = record {
    held = subst (All (λ e. is_headless b (stream_of (frame_in e)) ≡ true)) (sym held-is)
        (all-filtered (λ e. is_headless a (stream_of (frame_in e)) ≡ true) (λ e. is_headless b (stream_of (frame_in e)) ≡ true)
        (λ e. not (is_of id e)) still-lacks a.held h.held);
    opened = λ k u.
        let w : is_opened k a.log ≡ false = sym (ap (list_any (λ n. n == k)) opened-is) ∙ u in
        heads-are k ∙ rw (other k w) (h.opened k w);
  }

  -- and the block that isn't whole, and the violation
  pub headed-same : {A : Type 0} (g : Log → A) → ((f : Frame) (log : Log) → g (Handed f ∷ log) ≡ g log)
      → ((f : Frame) (log : Log) → g (Owed f ∷ log) ≡ g log) → g b.log ≡ g a.log
  headed-same g handed owed =
      ap (λ c. g c.log) (headed-is id block last ends a v s.holds)
      ∙ after-same g (λ n code log r. owed (frame.Reset n code) log) (filter (is_of id) a.held) (Handed head ∷ a.log) holds-out
      ∙ handed head a.log
