-- `CallsSound` is kept by each frame and byte that arrives, and by `open`.
use Rattle.std.proofs.Common.{◌≡◌, ℕ, ◌%◌, Bool, true, false, not, ◌&&◌, ◌==◌, List, [], ◌∷◌, ◌++◌, length, refl, sym, ◌∙◌, ap, if◌then◌else◌, All, Option, Some, None, nat_lt, nat_le, true≢false, eqb-true, ◌+◌, take, bytes_eq}
use borrow.Author.Tests.{not-true, not-false}
use Rattle.std.proofs.lemmas.List.Elements.{All-head, All-tail, All-cons, All-nil, All-append, All-weaker}
use Rattle.h2_frames.specs.Frames.{First, first, Unfinished, Whole, Faulty}
use Rattle.h2_frames.specs.declared.frame.Frame.{Frame}
use Rattle.h2_frames.specs.declared.frame.Frame.TheVariants as frame
use Rattle.h2_model.specs.declared.answers.Event.{Event}
use Rattle.h2_model.specs.Codes.{refused_stream, protocol_error}
use Rattle.h2_model.specs.Log.{LogEntry, Opened, Received, Block, Owed, Reported, stream_of}
use Rattle.h2_model.specs.Streams.{opened, is_opened, is_live, is_ended_by_peer, resets, has_head, greatest, live_streams}
use Rattle.h2_model.specs.Blocks.{OpenBlock, open_block, whole_block}
use Rattle.h2_model.specs.Account.{Account, is_headless}
use Rattle.h2_model.specs.Windows.{unreturned}
use Rattle.h2_model.specs.StreamFaults.{stream_fault}
use Rattle.h2_model.specs.Violations.{violation_of, may_open, is_on_unopened, is_first, is_settings, breaks_block, is_push}
use Rattle.h2_model.specs.Duties.{update, updates, is_open_from_peer, reset_for, owed_for, events_by, events_of}
use Rattle.h2_model.specs.History.{noted, hold, queue_with, owing, owing_all, reporting, reporting_all, opened_by, with_opening, with_block, accepted, arrived_by, arrived, violated, preface, with_first, with_greeting, with_byte, is_violated, called, Open, next_number}
use Rattle.h2_laws_log.specs.Sound.{CallsSound, has_left, may_be_held}
use Rattle.h2_laws_log.proofs.Lists.{same-number, both-left, both-right}
use Rattle.h2_laws_log.proofs.Queues.{all-entered}
use Rattle.h2_laws_log.proofs.Release.{held-still}
use Rattle.h2_laws_log.proofs.Sounds.{noted-sound, fresh-left, still}
use Rattle.h2_laws_log.proofs.Fail.{fail-sound}

queued-sound : (f : Frame) (a : Account) → CallsSound a → CallsSound (queue_with f a)
queued-sound f a s = record {
  left = all-entered (λ w. has_left w ≡ true) (λ w h. h) f a.waiting (fresh-left f) s.left;
  holds = s.holds;
  lost = s.lost;
}

held-sound : (e : LogEntry) (a : Account) → may_be_held a.log e ≡ true → CallsSound a → CallsSound (hold e a)
held-sound e a m s = record {
  left = s.left;
  holds = All-append (λ x. may_be_held a.log x ≡ true) a.held (e ∷ []) s.holds
      (All-cons (λ x. may_be_held a.log x ≡ true) e [] m (All-nil (λ x. may_be_held a.log x ≡ true)));
  lost = s.lost;
}

-- a frame that is owed may be held, if its stream is headless
abbrev Fits : Account → Frame → Type 0
Fits a f = is_headless a (stream_of f) ≡ true → may_be_held a.log (Owed f) ≡ true

owing-sound : (f : Frame) (a : Account) → Fits a f → CallsSound a → CallsSound (owing f a)
unfolding owing
owing-sound f a m s = by (is_headless a (stream_of f)) m
  where
    by : (c : Bool) → (c ≡ true → may_be_held a.log (Owed f) ≡ true)
        → CallsSound (if c then hold (Owed f) a else queue_with f (noted (Owed f) a))
    by true m = held-sound (Owed f) a (m refl) s
    by false m = queued-sound f (noted (Owed f) a) (noted-sound (Owed f) a refl s)

still-fits : (f g : Frame) (a : Account) → Fits a g → Fits (owing f a) g
unfolding owing noted
still-fits f g a m = by (is_headless a (stream_of f))
  where
    by : (c : Bool) → Fits (if c then hold (Owed f) a else queue_with f (noted (Owed f) a)) g
    by true = m
    by false = λ h. held-still a.log (Owed f ∷ a.log) (λ k r. still (resets k (Owed f)) r) (Owed g) (m h)

owing-all-sound : (frames : List Frame) (a : Account) → All (Fits a) frames → CallsSound a → CallsSound (owing_all frames a)
owing-all-sound [] a m s = s
owing-all-sound (f ∷ frames) a m s =
    owing-all-sound frames (owing f a)
    (All-weaker (Fits a) (Fits (owing f a)) (λ g. still-fits f g a) frames (All-tail (Fits a) f frames m))
    (owing-sound f a (All-head (Fits a) f frames m) s)

reporting-all-sound : (events : List Event) (a : Account) → CallsSound a → CallsSound (reporting_all events a)
reporting-all-sound [] a s = s
reporting-all-sound (e ∷ events) a s =
    reporting-all-sound events (reporting e a) (told (noted (Reported e) a) (noted-sound (Reported e) a refl s))
  where
    told : (b : Account) → CallsSound b → CallsSound (record b { unreported = b.unreported ++ e ∷ [] })
    told b t = record { left = t.left; holds = t.holds; lost = t.lost }

reporting-all-headless : (events : List Event) (a : Account) (k : ℕ) → is_headless (reporting_all events a) k
    ≡ is_headless a k
unfolding noted
reporting-all-headless [] a k = refl
reporting-all-headless (e ∷ events) a k = reporting-all-headless events (reporting e a) k

block-sound : (o : Option OpenBlock) (a : Account) → CallsSound a → CallsSound (with_block o a)
block-sound None a s = s
block-sound (Some b) a s = noted-sound (Block b.stream b.bytes b.last) a refl s

block-headless : (o : Option OpenBlock) (a : Account) (k : ℕ) → is_headless (with_block o a) k ≡ is_headless a k
unfolding noted
block-headless None a k = refl
block-headless (Some b) a k = refl

-- What is owed for a frame

module _ (a : Account) (z : is_opened 0 a.log ≡ false) (f : Frame) where
  abbrev came : Account
  came = with_block (whole_block a.log f) (noted (Received f) a)

  came-headless : (k : ℕ) → is_headless came k ≡ is_headless a k
  unfolding noted
  came-headless k = block-headless (whole_block a.log f) (noted (Received f) a) k

  connection-fits : (es : List Event) (g : Frame) → stream_of g ≡ 0 → Fits (reporting_all es came) g
  connection-fits es g e h =
      absurd (true≢false (sym h ∙ ap (is_headless (reporting_all es came)) e ∙ reporting-all-headless es came 0
      ∙ came-headless 0 ∙ none))
    where
      none : (a.client && is_opened 0 a.log && not (has_head 0 a.log)) ≡ false
      none = rw z (by a.client)
        where
          by : (c : Bool) → (c && false && not (has_head 0 a.log)) ≡ false
          by true = refl
          by false = refl

  headed-fits : (es : List Event) (g : Frame) → is_headless a (stream_of g) ≡ false → Fits (reporting_all es came) g
  headed-fits es g e h =
      absurd (true≢false (sym h ∙ reporting-all-headless es came (stream_of g) ∙ came-headless (stream_of g) ∙ e))

  one-update : (es : List Event) (id size : ℕ) → ((n : ℕ) → Fits (reporting_all es came) (frame.Window id n))
      → All (Fits (reporting_all es came)) (update id size a.log)
  one-update es id size h = by (nat_le 32768 (unreturned id a.log + size))
    where
      by : (c : Bool) → All (Fits (reporting_all es came))
          (if c then frame.Window id (unreturned id a.log + size) ∷ [] else [])
      by true = All-cons (Fits (reporting_all es came)) (frame.Window id (unreturned id a.log + size)) []
          (h (unreturned id a.log + size)) (All-nil (Fits (reporting_all es came)))
      by false = All-nil (Fits (reporting_all es came))

  updates-fit : (es : List Event) (id : ℕ) (last : Bool) (size : ℕ)
      → All (Fits (reporting_all es came)) (updates a id last size)
  updates-fit es id last size =
      All-append (Fits (reporting_all es came)) (update 0 size a.log)
      (if is_open_from_peer a id last then update id size a.log else [])
      (one-update es 0 size (λ n. connection-fits es (frame.Window 0 n) refl)) (by (is_open_from_peer a id last) refl)
    where
      by : (c : Bool) → is_open_from_peer a id last ≡ c
          → All (Fits (reporting_all es came)) (if c then update id size a.log else [])
      by true o = one-update es id size (λ n. headed-fits es (frame.Window id n)
          (not-true (is_headless a id)
          (both-right (is_live id a.log && not last && not (is_ended_by_peer id a.log)) (not (is_headless a id)) o)))
      by false o = All-nil (Fits (reporting_all es came))

  reset-fits : (o : Option (ℕ × ℕ)) → All (Fits (reporting_all (events_by a f o) came)) (reset_for o)
  unfolding noted
  reset-fits None = All-nil (Fits (reporting_all (events_by a f None) came))
  reset-fits (Some s) = All-cons (Fits (reporting_all (events_by a f (Some s)) came)) (frame.Reset s.0 s.1) []
      (λ h. rw (same-number s.0) refl) (All-nil (Fits (reporting_all (events_by a f (Some s)) came)))

owed-fits : (a : Account) (z : is_opened 0 a.log ≡ false) (f : Frame)
    → All (Fits (reporting_all (events_of a f) (came a z f))) (owed_for a f)
unfolding owed_for events_of
owed-fits a z (frame.Settings list) =
    let f : Frame = frame.Settings list in
    All-cons (Fits (reporting_all (events_of a f) (came a z f))) frame.SettingsAck []
    (connection-fits a z f (events_of a f) frame.SettingsAck refl)
    (All-nil (Fits (reporting_all (events_of a f) (came a z f))))
owed-fits a z (frame.Ping ack bytes) = by ack
  where
    by : (c : Bool) → All (Fits (reporting_all (events_of a (frame.Ping ack bytes)) (came a z (frame.Ping ack bytes))))
        (if c then [] else frame.Ping true bytes ∷ [])
    by true = All-nil (Fits (reporting_all (events_of a (frame.Ping ack bytes)) (came a z (frame.Ping ack bytes))))
    by false = All-cons (Fits (reporting_all (events_of a (frame.Ping ack bytes)) (came a z (frame.Ping ack bytes))))
        (frame.Ping true bytes) []
        (connection-fits a z (frame.Ping ack bytes) (events_of a (frame.Ping ack bytes)) (frame.Ping true bytes) refl)
        (All-nil (Fits (reporting_all (events_of a (frame.Ping ack bytes)) (came a z (frame.Ping ack bytes)))))
owed-fits a z (frame.Data id bytes last size) =
    let f : Frame = frame.Data id bytes last size in
    All-append (Fits (reporting_all (events_of a f) (came a z f))) (updates a id last size) (reset_for (stream_fault a f))
    (updates-fit a z f (events_of a f) id last size) (reset-fits a z f (stream_fault a f))
owed-fits a z f = reset-fits a z f (stream_fault a f)

accepted-sound : (f : Frame) (a : Account) → is_opened 0 a.log ≡ false → CallsSound a → CallsSound (accepted f a)
unfolding accepted
accepted-sound f a z s = owing-all-sound (owed_for a f) (reporting_all (events_of a f) (came a z f)) (owed-fits a z f)
    (reporting-all-sound (events_of a f) (came a z f)
    (block-sound (whole_block a.log f) (noted (Received f) a) (noted-sound (Received f) a refl s)))

-- A stream is opened

fourth : (r1 r2 r3 r4 : Bool) (c1 c2 c3 c4 : ℕ) (rest : Option ℕ)
    → (if r1 then Some c1 else if r2 then Some c2 else if r3 then Some c3 else if r4 then Some c4 else rest) ≡ None → r4
    ≡ false
fourth true r2 r3 r4 c1 c2 c3 c4 rest e = absurd cc
fourth false true r3 r4 c1 c2 c3 c4 rest e = absurd cc
fourth false false true r4 c1 c2 c3 c4 rest e = absurd cc
fourth false false false true c1 c2 c3 c4 rest e = absurd cc
fourth false false false false c1 c2 c3 c4 rest e = refl

known-stream : (a : Account) (f : Frame) → violation_of a f ≡ None → is_on_unopened a f ≡ false
unfolding violation_of
known-stream a f e = fourth (is_first a && not (is_settings f)) (breaks_block (open_block a.log) f) (is_push f)
    (is_on_unopened a f) _ _ _ _ _ e

-- an opening is one of a server, and not of number 0
may-open-not-zero : (a : Account) (id : ℕ) → may_open a id ≡ true → (id == 0) ≡ false
may-open-not-zero a id m = by (id == 0) refl
  where
    odd : ((id % 2) == 1) ≡ true
    odd = both-right (not a.client) ((id % 2) == 1)
        (both-left (not a.client && ((id % 2) == 1)) (nat_lt (greatest (opened a.log)) id) m)

    by : (c : Bool) → (id == 0) ≡ c → (id == 0) ≡ false
    by true e = absurd (true≢false (sym odd ∙ ap (λ n. (n % 2) == 1) (eqb-true id 0 e)))
    by false e = e

may-open-server : (a : Account) (id : ℕ) → may_open a id ≡ true → a.client ≡ false
may-open-server a id m =
    not-true a.client (both-left (not a.client) ((id % 2) == 1)
    (both-left (not a.client && ((id % 2) == 1)) (nat_lt (greatest (opened a.log)) id) m))

opened-by-sound : (known full : Bool) (id : ℕ) (a : Account) → (known ≡ false → may_open a id ≡ true) → CallsSound a
    → CallsSound (opened_by known full id a)
unfolding noted
opened-by-sound true full id a m s = s
opened-by-sound false false id a m s = noted-sound (Opened id) a refl s
opened-by-sound false true id a m s =
    owing-sound (frame.Reset id refused_stream) (noted (Opened id) a)
    (λ h. absurd (true≢false
    (sym h ∙ ap (λ c. c && is_opened id (Opened id ∷ a.log) && not (has_head id a.log))
    (may-open-server a id (m refl)))))
    (noted-sound (Opened id) a refl s)

opened-by-zero : (known full : Bool) (id : ℕ) (a : Account) → (known ≡ false → may_open a id ≡ true) → is_opened 0 a.log
    ≡ false
    → is_opened 0 (opened_by known full id a).log ≡ false
unfolding noted owing
opened-by-zero true full id a m z = z
opened-by-zero false false id a m z = rw (may-open-not-zero a id (m refl)) z
opened-by-zero false true id a m z = by (is_headless (noted (Opened id) a) id)
  where
    by : (c : Bool) → is_opened 0
        (if c then hold (Owed (frame.Reset id refused_stream)) (noted (Opened id) a) else queue_with
        (frame.Reset id refused_stream) (noted (Owed (frame.Reset id refused_stream)) (noted (Opened id) a))).log ≡ false
    by true = rw (may-open-not-zero a id (m refl)) z
    by false = rw (may-open-not-zero a id (m refl)) z

-- HEADERS that come on an unopened stream may open it, where they are no violation
opens : (a : Account) (id : ℕ) (part : List ℕ) (last ends : Bool) → violation_of a (frame.Headers id part last ends) ≡ None
    → is_opened id a.log ≡ false → may_open a id ≡ true
opens a id part last ends e o =
    not-false (may_open a id) (by (is_opened id a.log) o (known-stream a (frame.Headers id part last ends) e))
  where
    by : (c : Bool) → c ≡ false → (not c && not (may_open a id)) ≡ false → not (may_open a id) ≡ false
    by false o h = h
    by true o h = absurd cc

opening-sound : (f : Frame) (a : Account) → violation_of a f ≡ None → CallsSound a → CallsSound (with_opening f a)
opening-sound (frame.Headers id part last ends) a e s =
    opened-by-sound (is_opened id a.log) (nat_le 256 (length (live_streams a.log))) id a (opens a id part last ends e) s
opening-sound f a e s = s

opening-zero : (f : Frame) (a : Account) → violation_of a f ≡ None → is_opened 0 a.log ≡ false
    → is_opened 0 (with_opening f a).log ≡ false
opening-zero (frame.Headers id part last ends) a e z =
    opened-by-zero (is_opened id a.log) (nat_le 256 (length (live_streams a.log))) id a (opens a id part last ends e) z
opening-zero f a e z = z

-- a frame that arrives keeps `CallsSound`
pub arrived-sound : (f : Frame) (a : Account) → is_opened 0 a.log ≡ false → CallsSound a → CallsSound (arrived f a)
unfolding arrived
arrived-sound f a z s = by (violation_of a f) refl
  where
    by : (o : Option ℕ) → violation_of a f ≡ o → CallsSound (arrived_by o f a)
    by None e = accepted-sound f (with_opening f a) (opening-zero f a e z) (opening-sound f a e s)
    by (Some code) e = fail-sound code a s

-- A byte comes

with-rest : (rest : List ℕ) (greeted : Bool) (a : Account) → CallsSound a → CallsSound (record a { rest = rest; greeted = greeted })
with-rest rest greeted a s = record { left = s.left; holds = s.holds; lost = s.lost }

first-sound : (x : First) (rest : List ℕ) (a : Account) → is_opened 0 a.log ≡ false → CallsSound a → CallsSound (with_first x rest a)
first-sound Unfinished rest a z s = with-rest rest a.greeted a s
first-sound (Whole f n) rest a z s = arrived-sound f (record a { rest = [] }) z (with-rest [] a.greeted a s)
first-sound (Faulty code) rest a z s = fail-sound code a s

greeting-sound : (rest : List ℕ) (a : Account) → CallsSound a → CallsSound (with_greeting rest a)
greeting-sound rest a s = by (bytes_eq rest preface) (bytes_eq rest (take (length rest) preface))
  where
    by : (b c : Bool) → CallsSound
        (if b then record a { greeted = true; rest = [] } else if c then record a {
          rest = rest;
        } else violated protocol_error a)
    by true c = with-rest [] true a s
    by false true = with-rest rest a.greeted a s
    by false false = fail-sound protocol_error a s

pub byte-sound : (b : ℕ) (a : Account) → is_opened 0 a.log ≡ false → CallsSound a → CallsSound (with_byte b a)
unfolding with_byte
byte-sound b a z s = by (is_violated a) a.greeted
  where
    by : (x y : Bool) → CallsSound
        (if x then a else if y then with_first (first (a.rest ++ b ∷ [])) (a.rest ++ b ∷ []) a else with_greeting
        (a.rest ++ b ∷ []) a)
    by true y = s
    by false true = first-sound (first (a.rest ++ b ∷ [])) (a.rest ++ b ∷ []) a z s
    by false false = greeting-sound (a.rest ++ b ∷ []) a s

pub open-sound : (a : Account) → CallsSound a → CallsSound (called Open a)
unfolding called
open-sound a s = noted-sound (Opened (next_number a)) a refl s
