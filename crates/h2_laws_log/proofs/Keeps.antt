-- What comes in as a frame and what is called leave the bytes that are kept.
use Rattle.std.proofs.Common.{◌≡◌, ℕ, Bool, true, false, not, List, [], ◌∷◌, length, nat_le, filter, Option, Some, None, if◌then◌else◌, refl, ◌∙◌, true≢false}
use Rattle.h2_frames.specs.declared.frame.Frame.{Frame}
use Rattle.h2_frames.specs.declared.frame.Frame.TheVariants as frame
use Rattle.h2_model.specs.declared.answers.Event.{Event}
use Rattle.h2_model.specs.Codes.{refused_stream}
use Rattle.h2_model.specs.Log.{LogEntry, Opened, Received, Block, Handed, Owed, stream_of, is_empty}
use Rattle.h2_model.specs.Streams.{is_opened, live_streams}
use Rattle.h2_model.specs.Blocks.{OpenBlock, whole_block}
use Rattle.h2_model.specs.Account.{Account, is_headless}
use Rattle.h2_model.specs.Violations.{violation_of}
use Rattle.h2_model.specs.Duties.{events_of, owed_for}
use Rattle.h2_model.specs.History.{noted, handed, owing, queue_with, hold, owing_all, reporting, reporting_all, opened_by, with_block, with_opening, accepted, arrived_by, arrived, called, is_violated, unless_violated, headed, released, frame_in, is_of, next_number, Call, Feed, Open, Head, Send, Finish, Reset, Take}
use Rattle.h2_laws_log.specs.Feeding.{KeepsInput, is_feed}

keeps-same : (a : Account) → KeepsInput a a
keeps-same a = record { greeted = refl; rest = refl }

keeps-both : (a b c : Account) → KeepsInput a b → KeepsInput b c → KeepsInput a c
keeps-both a b c x y = record { greeted = y.greeted ∙ x.greeted; rest = y.rest ∙ x.rest }

keeps-noted : (e : LogEntry) (a : Account) → KeepsInput a (noted e a)
unfolding noted
keeps-noted e a = record { greeted = refl; rest = refl }

keeps-handed : (f : Frame) (a : Account) → KeepsInput a (handed f a)
unfolding handed noted
keeps-handed f a = by (is_headless a (stream_of f))
  where
    by : (b : Bool) → KeepsInput a (if b then hold (Handed f) (noted (Handed f) a) else queue_with f (noted (Handed f) a))
    by true = record { greeted = refl; rest = refl }
    by false = record { greeted = refl; rest = refl }

keeps-owing : (f : Frame) (a : Account) → KeepsInput a (owing f a)
unfolding owing noted
keeps-owing f a = by (is_headless a (stream_of f))
  where
    by : (b : Bool) → KeepsInput a (if b then hold (Owed f) a else queue_with f (noted (Owed f) a))
    by true = record { greeted = refl; rest = refl }
    by false = record { greeted = refl; rest = refl }

keeps-owing-all : (frames : List Frame) (a : Account) → KeepsInput a (owing_all frames a)
keeps-owing-all [] a = keeps-same a
keeps-owing-all (f ∷ frames) a =
    keeps-both a (owing f a) (owing_all frames (owing f a)) (keeps-owing f a) (keeps-owing-all frames (owing f a))

keeps-reporting : (e : Event) (a : Account) → KeepsInput a (reporting e a)
unfolding noted
keeps-reporting e a = record { greeted = refl; rest = refl }

keeps-reporting-all : (events : List Event) (a : Account) → KeepsInput a (reporting_all events a)
keeps-reporting-all [] a = keeps-same a
keeps-reporting-all (e ∷ events) a =
    keeps-both a (reporting e a) (reporting_all events (reporting e a)) (keeps-reporting e a) (keeps-reporting-all events (reporting e a))

keeps-block : (o : Option OpenBlock) (a : Account) → KeepsInput a (with_block o a)
keeps-block (Some b) a = keeps-noted (Block b.stream b.bytes b.last) a
keeps-block None a = keeps-same a

keeps-opened : (known full : Bool) (id : ℕ) (a : Account) → KeepsInput a (opened_by known full id a)
keeps-opened true full id a = keeps-same a
keeps-opened false true id a =
    let b : Account = noted (Opened id) a in
    keeps-both a b (owing (frame.Reset id refused_stream) b) (keeps-noted (Opened id) a) (keeps-owing (frame.Reset id refused_stream) b)
keeps-opened false false id a = keeps-noted (Opened id) a

keeps-opening : (f : Frame) (a : Account) → KeepsInput a (with_opening f a)
keeps-opening (frame.Headers id part last ends) a = keeps-opened (is_opened id a.log) (nat_le 256 (length (live_streams a.log))) id a
keeps-opening f a = keeps-same a

keeps-accepted : (f : Frame) (a : Account) → KeepsInput a (accepted f a)
unfolding accepted
keeps-accepted f a =
    let b : Account = noted (Received f) a in
    let c : Account = with_block (whole_block a.log f) b in
    let d : Account = reporting_all (events_of a f) c in
    keeps-both a d (owing_all (owed_for a f) d)
    (keeps-both a c d (keeps-both a b c (keeps-noted (Received f) a) (keeps-block (whole_block a.log f) b)) (keeps-reporting-all (events_of a f) c))
    (keeps-owing-all (owed_for a f) d)

keeps-arrived-by : (o : Option ℕ) (f : Frame) (a : Account) → KeepsInput a (arrived_by o f a)
keeps-arrived-by (Some code) f a = record { greeted = refl; rest = refl }
keeps-arrived-by None f a = keeps-both a (with_opening f a) (accepted f (with_opening f a)) (keeps-opening f a) (keeps-accepted f (with_opening f a))

pub keeps-arrived : (f : Frame) (a : Account) → KeepsInput a (arrived f a)
unfolding arrived
keeps-arrived f a = keeps-arrived-by (violation_of a f) f a

keeps-released : (held : List LogEntry) (a : Account) → KeepsInput a (released held a)
unfolding noted
keeps-released [] a = keeps-same a
keeps-released (Owed f ∷ held) a =
    let b : Account = queue_with f (noted (Owed f) a) in
    keeps-both a b (released held b) (record { greeted = refl; rest = refl }) (keeps-released held b)
keeps-released (e ∷ held) a =
    let b : Account = queue_with (frame_in e) a in
    keeps-both a b (released held b) (record { greeted = refl; rest = refl }) (keeps-released held b)

keeps-headed : (id : ℕ) (f : Frame) (a : Account) → KeepsInput a (headed id f a)
unfolding noted
keeps-headed id f a =
    let b : Account = queue_with f (noted (Handed f) a) in
    let c : Account = record b { held = filter (λ e. not (is_of id e)) b.held } in
    keeps-both a c (released (filter (is_of id) b.held) c) (record { greeted = refl; rest = refl }) (keeps-released (filter (is_of id) b.held) c)

keeps-unless : (a b : Account) → KeepsInput a b → KeepsInput a (unless_violated a b)
keeps-unless a b k = by (is_violated a)
  where
    by : (x : Bool) → KeepsInput a (if x then a else b)
    by true = keeps-same a
    by false = k

keeps-head : (id : ℕ) (f : Frame) (a : Account) → KeepsInput a (unless_violated a (headed id f a))
keeps-head id f a = keeps-unless a (headed id f a) (keeps-headed id f a)

keeps-hand : (f : Frame) (a : Account) → KeepsInput a (unless_violated a (handed f a))
keeps-hand f a = keeps-unless a (handed f a) (keeps-handed f a)

pub keeps-called : (call : Call) (a : Account) → is_feed call ≡ false → KeepsInput a (called call a)
unfolding called
keeps-called (Feed bytes) a n = absurd (true≢false n)
keeps-called Open a n = keeps-noted (Opened (next_number a)) a
keeps-called (Head id fields block last) a n = keeps-head id (frame.Headers id block last true) a
keeps-called (Send id bytes) a n = by (is_empty bytes)
  where
    by : (x : Bool) → KeepsInput a (if x then a else unless_violated a (handed (frame.Data id bytes false (length bytes)) a))
    by true = keeps-same a
    by false = keeps-hand (frame.Data id bytes false (length bytes)) a
keeps-called (Finish id) a n = keeps-hand (frame.Data id [] true 0) a
keeps-called (Reset id code) a n = keeps-hand (frame.Reset id code) a
keeps-called (Take n) a m = record { greeted = refl; rest = refl }
