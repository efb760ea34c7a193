-- `Counted` is kept as a frame comes in: a stream error is reported, and its reset owed once, on a stream that was live; a
-- stream too many is opened, and a reset of it owed.
use Rattle.std.proofs.Common.{◌≡◌, ℕ, ◌+◌, ◌%◌, ◌<◌, Bool, true, false, not, ◌&&◌, ◌==◌, List, [], ◌∷◌, ◌++◌, refl, sym, subst, if◌then◌else◌, Option, Some, None, length, arith, sum_by, le_refl, nat_le, nat_lt, ltb-true}
use borrow.Author.Tests.{not-true}
use Rattle.std.proofs.lemmas.List.Sums.{sum_by-cons, sum_by-append}
use Rattle.ext_msgs.specs.declared.lists.Field.{Field}
use Rattle.h2_frames.specs.declared.frame.Frame.{Frame}
use Rattle.h2_frames.specs.declared.frame.Frame.TheVariants as frame
use Rattle.h2_model.specs.declared.answers.Event.{Event}
use Rattle.h2_model.specs.declared.answers.Event.TheVariants as event
use Rattle.h2_model.specs.Codes.{first_row, refused_stream}
use Rattle.h2_model.specs.Log.{Log, Opened, Received, Block, Owed, Reported}
use Rattle.h2_model.specs.Streams.{opened, is_opened, greatest, is_live, live_streams, is_reset}
use Rattle.h2_model.specs.Blocks.{OpenBlock, whole_block, decoded_with, fields_or_none}
use Rattle.h2_model.specs.Account.{Account, is_headless}
use Rattle.h2_model.specs.Windows.{unreturned}
use Rattle.h2_model.specs.StreamFaults.{stream_fault, on_live, with_stream, update_rows, data_rows, fault_of_block, block_rows}
use Rattle.h2_model.specs.Violations.{violation_of, may_open}
use Rattle.h2_model.specs.Duties.{update, updates, is_open_from_peer, reset_for, owed_for, events_by, events_of}
use Rattle.h2_model.specs.History.{noted, hold, queue_with, owing, owing_all, reporting, reporting_all, opened_by, with_opening, with_block, accepted, arrived, arrived_by}
use Rattle.h2_model.specs.Valid.{Valid}
use Rattle.h2_laws_log.specs.Steps.{FramesSound}
use Rattle.h2_laws_log.proofs.Arrives.{Accepted, no-violation, begins, one-of}
use Rattle.h2_laws_log.proofs.Lists.{same-number, not-zero, both-left, both-right}
use Rattle.h2_laws_log.proofs.Hand.{live-not-reset}
use Rattle.h2_laws_log.specs.Rooms.{end_of, reset_of, resets_due, Counted}
use Rattle.h2_laws_log.proofs.RoomGrows.{Grows, none, one, stays, grows-on, noted-grows, owing-grows, counted-grows, counted-stays, counted-reset}
use Rattle.h2_laws_log.proofs.RoomCalls.{live-not-zero, no-reset-due, noted-counted, violated-counted}

-- What a frame brings

reporting-grows : (e : Event) (a : Account) → Grows none a (reporting e a)
reporting-grows e a =
    let g : Grows none a (noted (Reported e) a) = noted-grows (Reported e) a in
    record { most = g.most; reset = g.reset; ended = g.ended }

reporting-all-grows : (es : List Event) (a : Account) → Grows none a (reporting_all es a)
reporting-all-grows [] a = stays a
reporting-all-grows (e ∷ es) a =
    grows-on none none none a (reporting e a) (reporting_all es (reporting e a)) (λ m. le_refl 0) (reporting-grows e a)
    (reporting-all-grows es (reporting e a))

block-grows : (o : Option OpenBlock) (a : Account) → Grows none a (with_block o a)
block-grows None a = stays a
block-grows (Some b) a = noted-grows (Block b.stream b.bytes b.last) a

abbrev came : Frame → Account → Account
came f a = with_block (whole_block a.log f) (noted (Received f) a)

came-grows : (f : Frame) (a : Account) → Grows none a (came f a)
came-grows f a =
    grows-on none none none a (noted (Received f) a) (came f a) (λ m. le_refl 0) (noted-grows (Received f) a)
    (block-grows (whole_block a.log f) (noted (Received f) a))

-- A stream error is one of a live stream

abbrev IsFaultLive : Log → Option (ℕ × ℕ) → Type 0
IsFaultLive log None = Unit {0}
IsFaultLive log (Some s) = is_live s.0 log ≡ true

on-live-fault : (a : Account) (id : ℕ) (rows : List (Bool × ℕ)) → IsFaultLive a.log (on_live a id rows)
on-live-fault a id rows = by (is_live id a.log) refl (first_row rows)
  where
    by : (x : Bool) → is_live id a.log ≡ x → (r : Option ℕ) → IsFaultLive a.log (if x then with_stream id r else None)
    by true l None = tt
    by true l (Some code) = l
    by false l r = tt

block-fault : (a : Account) (fields : List Field) (o : Option OpenBlock) → IsFaultLive a.log (fault_of_block a fields o)
block-fault a fields None = tt
block-fault a fields (Some b) = on-live-fault a b.stream (block_rows a b fields)

fault-live : (a : Account) (f : Frame) → IsFaultLive a.log (stream_fault a f)
unfolding stream_fault
fault-live a (frame.Window id n) = on-live-fault a id (update_rows a id n)
fault-live a (frame.Data id bytes last size) = on-live-fault a id (data_rows a id)
fault-live a f = block-fault a (fields_or_none (decoded_with a.log f)) (whole_block a.log f)

-- Its reset is owed

-- the stream was reset, and no reset of it waits
record Due (id : ℕ) (a : Account) : Type 0 where
  number : (id == 0) ≡ false
  reset : is_reset id a.log ≡ true
  nothing : resets_due id a ≡ 0

abbrev DueFor : Option (ℕ × ℕ) → Account → Type 0
DueFor None a = Unit {0}
DueFor (Some s) a = Due s.0 a

due-after : (o : Option (ℕ × ℕ)) (f : Frame) (b d : Account) → Valid b → Counted b → IsFaultLive b.log o → Grows none b d
    → DueFor o (reporting_all (events_by b f o) d)
unfolding noted
due-after None f b d v c l g = tt
due-after (Some s) f b d v c l g =
    let e : Event = event.Reset s.0 s.1 in
    let h : Grows none d (reporting e d) = reporting-grows e d in
    record {
      number = live-not-zero s.0 b v l;
      reset = rw (same-number s.0) refl;
      nothing = omega (
        arith,
        no-reset-due s.0 b c (live-not-reset s.0 b.log l),
        g.most (reset_of s.0),
        h.most (reset_of s.0),
      );
    }

-- frames that close no stream
abbrev AreOpenEnded : List Frame → Type 0
AreOpenEnded fs = (k : ℕ) → (sum_by (end_of k) fs ≡ 0) × (sum_by (reset_of k) fs ≡ 0)

abbrev in_frames : List Frame → (Frame → ℕ) → ℕ
in_frames fs m = sum_by m fs

owing-all-grows : (fs : List Frame) (a : Account) → Grows (in_frames fs) a (owing_all fs a)
owing-all-grows [] a = stays a
owing-all-grows (f ∷ fs) a =
    grows-on (one f) (in_frames fs) (in_frames (f ∷ fs)) a (owing f a) (owing_all fs (owing f a))
    (λ m. omega (arith, sum_by-cons m f fs)) (owing-grows f a) (owing-all-grows fs (owing f a))

open-ended-counted : (fs : List Frame) (a : Account) → AreOpenEnded fs → Counted a → Counted (owing_all fs a)
open-ended-counted fs a h c =
    counted-grows (in_frames fs) a (owing_all fs a) (λ k. (h k).0) (λ k. (h k).1) (owing-all-grows fs a) c

open-ended-due : (fs : List Frame) (o : Option (ℕ × ℕ)) (a : Account) → AreOpenEnded fs → DueFor o a → DueFor o (owing_all fs a)
open-ended-due fs None a h d = tt
open-ended-due fs (Some s) a h d =
    let g : Grows (in_frames fs) a (owing_all fs a) = owing-all-grows fs a in
    record {
      number = d.number;
      reset = g.reset s.0 d.reset;
      nothing = omega (arith, g.most (reset_of s.0), (h s.0).1, d.nothing);
    }

resets-counted : (o : Option (ℕ × ℕ)) (a : Account) → DueFor o a → Counted a → Counted (owing_all (reset_for o) a)
resets-counted None a d c = c
resets-counted (Some s) a d c =
    let f : Frame = frame.Reset s.0 s.1 in
    let g : Grows (one f) a (owing f a) = owing-grows f a in
    counted-reset s.0 s.1 a (owing f a) d.number d.nothing (g.reset s.0 d.reset) g c

owing-both : (fs gs : List Frame) (a : Account) → owing_all (fs ++ gs) a ≡ owing_all gs (owing_all fs a)
owing-both [] gs a = refl
owing-both (f ∷ fs) gs a = owing-both fs gs (owing f a)

update-open-ended : (id size : ℕ) (log : Log) → AreOpenEnded (update id size log)
update-open-ended id size log k = by (nat_le 32768 (unreturned id log + size))
  where
    by : (c : Bool) → (sum_by (end_of k) (if c then frame.Window id (unreturned id log + size) ∷ [] else []) ≡ 0)
        × (sum_by (reset_of k) (if c then frame.Window id (unreturned id log + size) ∷ [] else []) ≡ 0)
    by true = (refl, refl)
    by false = (refl, refl)

both-open-ended : (fs gs : List Frame) → AreOpenEnded fs → AreOpenEnded gs → AreOpenEnded (fs ++ gs)
both-open-ended fs gs h i k = (
  omega (arith, sum_by-append (end_of k) fs gs, (h k).0, (i k).0),
  omega (arith, sum_by-append (reset_of k) fs gs, (h k).1, (i k).1),
)

updates-open-ended : (a : Account) (id : ℕ) (last : Bool) (size : ℕ) → AreOpenEnded (updates a id last size)
updates-open-ended a id last size =
    both-open-ended (update 0 size a.log) (if is_open_from_peer a id last then update id size a.log else [])
    (update-open-ended 0 size a.log) (by (is_open_from_peer a id last))
  where
    by : (c : Bool) → AreOpenEnded (if c then update id size a.log else [])
    by true = update-open-ended id size a.log
    by false = λ k. (refl, refl)

owed-counted : (f : Frame) (b d : Account) → DueFor (stream_fault b f) d → Counted d → Counted (owing_all (owed_for b f) d)
unfolding owed_for
owed-counted (frame.Settings list) b d r c = open-ended-counted (frame.SettingsAck ∷ []) d (λ k. (refl, refl)) c
owed-counted (frame.Ping ack bytes) b d r c = by ack
  where
    by : (x : Bool) → Counted (owing_all (if x then [] else frame.Ping true bytes ∷ []) d)
    by true = c
    by false = open-ended-counted (frame.Ping true bytes ∷ []) d (λ k. (refl, refl)) c
owed-counted (frame.Data id bytes last size) b d r c =
    let o : Option (ℕ × ℕ) = stream_fault b (frame.Data id bytes last size) in
    let fs : List Frame = updates b id last size in
    let h : AreOpenEnded fs = updates-open-ended b id last size in
    subst Counted (sym (owing-both fs (reset_for o) d))
    (resets-counted o (owing_all fs d) (open-ended-due fs o d h r) (open-ended-counted fs d h c))
owed-counted f b d r c = resets-counted (stream_fault b f) d r c

accepted-counted : (f : Frame) (a : Account) → Valid a → Counted a → Counted (accepted f a)
unfolding accepted events_of
accepted-counted f a v c =
    owed-counted f a (reporting_all (events_of a f) (came f a))
    (due-after (stream_fault a f) f a (came f a) v c (fault-live a f) (came-grows f a))
    (counted-stays (came f a) (reporting_all (events_of a f) (came f a)) (reporting-all-grows (events_of a f) (came f a))
    (counted-stays a (came f a) (came-grows f a) c))

-- A stream is opened

record Opens (id : ℕ) (a : Account) : Type 0 where
  server : a.client ≡ false
  above : greatest (opened a.log) < id

may-open-opens : (a : Account) (id : ℕ) → may_open a id ≡ true → Opens id a
may-open-opens a id m =
    let l : (not a.client && ((id % 2) == 1)) ≡ true =
    both-left (not a.client && ((id % 2) == 1)) (nat_lt (greatest (opened a.log)) id) m in
    record {
      server = not-true a.client (both-left (not a.client) ((id % 2) == 1) l);
      above = ltb-true (greatest (opened a.log)) id
          (both-right (not a.client && ((id % 2) == 1)) (nat_lt (greatest (opened a.log)) id) m);
    }

refused-counted : (id : ℕ) (a : Account) → Valid a → is_opened id a.log ≡ false → Opens id a → Counted a
    → Counted (owing (frame.Reset id refused_stream) (noted (Opened id) a))
unfolding noted owing
refused-counted id a v u o c =
    let f : Frame = frame.Reset id refused_stream in
    let b : Account = noted (Opened id) a in
    let g : Grows none a b = noted-grows (Opened id) a in
    let p : 0 < id = omega (arith, o.above) in
    let n : resets_due id a ≡ 0 = no-reset-due id a c (v.untouched id p u).reset in
    counted-reset id refused_stream b (owing f b) (not-zero id p) (omega (arith, n, g.most (reset_of id)))
    (by (is_headless b id) (rw o.server refl)) (owing-grows f b) (noted-counted (Opened id) a c)
  where
    by : (h : Bool) → h ≡ false → is_reset id
        (if h then hold (Owed (frame.Reset id refused_stream)) (noted (Opened id) a) else queue_with
        (frame.Reset id refused_stream) (noted (Owed (frame.Reset id refused_stream)) (noted (Opened id) a))).log ≡ true
    by true e = absurd cc
    by false e = rw (same-number id) refl

opened-by-counted : (known full : Bool) (id : ℕ) (a : Account) → Valid a → is_opened id a.log ≡ known → (known ≡ false → Opens id a)
    → Counted a → Counted (opened_by known full id a)
opened-by-counted true full id a v u o c = c
opened-by-counted false false id a v u o c = noted-counted (Opened id) a c
opened-by-counted false true id a v u o c = refused-counted id a v u (o refl) c

opening-counted : (f : Frame) (a : Account) → Valid a → violation_of a f ≡ None → Counted a → Counted (with_opening f a)
opening-counted (frame.Headers id part last ends) a v e c =
    let x : Accepted a (frame.Headers id part last ends) = no-violation a (frame.Headers id part last ends) e in
    opened-by-counted (is_opened id a.log) (nat_le 256 (length (live_streams a.log))) id a v refl
    (λ u. may-open-opens a id (one-of (is_opened id a.log) (may_open a id) x.on_opened u)) c
opening-counted f a v e c = c

pub arrived-counted : (f : Frame) (a : Account) → FramesSound a → Counted a → Counted (arrived f a)
unfolding arrived
arrived-counted f a s c = by (violation_of a f) refl
  where
    by : (o : Option ℕ) → violation_of a f ≡ o → Counted (arrived_by o f a)
    by None e = accepted-counted f (with_opening f a) (begins f a s e).1 (opening-counted f a s.valid e c)
    by (Some code) e = violated-counted code a c
