-- A frame that is no connection error leaves none in the log, so one that is brings nothing that is told.
use Rattle.std.proofs.Common.{◌≡◌, ℕ, Bool, true, false, List, [], ◌∷◌, length, nat_le, Option, Some, None, refl, ◌∙◌, if◌then◌else◌}
use Rattle.h2_frames.specs.declared.frame.Frame.{Frame}
use Rattle.h2_frames.specs.declared.frame.Frame.TheVariants as frame
use Rattle.h2_model.specs.declared.answers.Event.{Event}
use Rattle.h2_model.specs.Codes.{refused_stream}
use Rattle.h2_model.specs.Log.{Opened, Received, Owed, stream_of, violation}
use Rattle.h2_model.specs.Streams.{is_opened, live_streams}
use Rattle.h2_model.specs.Blocks.{OpenBlock, whole_block}
use Rattle.h2_model.specs.Account.{Account, is_headless}
use Rattle.h2_model.specs.Violations.{violation_of}
use Rattle.h2_model.specs.Duties.{owed_for, events_of}
use Rattle.h2_model.specs.History.{noted, hold, queue_with, owing, owing_all, reporting, reporting_all, opened_by, with_opening, with_block, accepted, arrived, arrived_by}

owing-sound : (f : Frame) (a : Account) → violation (owing f a).log ≡ violation a.log
unfolding owing noted
owing-sound f a = by (is_headless a (stream_of f))
  where
    by : (c : Bool) → violation (if c then hold (Owed f) a else queue_with f (noted (Owed f) a)).log ≡ violation a.log
    by true = refl
    by false = refl

owing-all-sound : (fs : List Frame) (a : Account) → violation (owing_all fs a).log ≡ violation a.log
owing-all-sound [] a = refl
owing-all-sound (f ∷ fs) a = owing-all-sound fs (owing f a) ∙ owing-sound f a

reporting-sound : (e : Event) (a : Account) → violation (reporting e a).log ≡ violation a.log
unfolding noted
reporting-sound e a = refl

reporting-all-sound : (es : List Event) (a : Account) → violation (reporting_all es a).log ≡ violation a.log
reporting-all-sound [] a = refl
reporting-all-sound (e ∷ es) a = reporting-all-sound es (reporting e a) ∙ reporting-sound e a

received-sound : (f : Frame) (a : Account) → violation (noted (Received f) a).log ≡ violation a.log
unfolding noted
received-sound f a = refl

block-sound : (o : Option OpenBlock) (a : Account) → violation (with_block o a).log ≡ violation a.log
unfolding noted
block-sound None a = refl
block-sound (Some b) a = refl

opened-sound : (id : ℕ) (a : Account) → violation (noted (Opened id) a).log ≡ violation a.log
unfolding noted
opened-sound id a = refl

opened-by-sound : (known full : Bool) (id : ℕ) (a : Account) → violation (opened_by known full id a).log ≡ violation a.log
opened-by-sound true full id a = refl
opened-by-sound false true id a = owing-sound (frame.Reset id refused_stream) (noted (Opened id) a) ∙ opened-sound id a
opened-by-sound false false id a = opened-sound id a

pub opening-sound : (f : Frame) (a : Account) → violation (with_opening f a).log ≡ violation a.log
opening-sound (frame.Headers id part last ends) a =
    opened-by-sound (is_opened id a.log) (nat_le 256 (length (live_streams a.log))) id a
opening-sound f a = refl

pub accepted-sound : (f : Frame) (a : Account) → violation (accepted f a).log ≡ violation a.log
unfolding accepted
accepted-sound f a =
    let b : Account = noted (Received f) a in
    let c : Account = with_block (whole_block a.log f) b in
    owing-all-sound (owed_for a f) (reporting_all (events_of a f) c) ∙ reporting-all-sound (events_of a f) c
    ∙ block-sound (whole_block a.log f) b ∙ received-sound f a

pub breaks-quietly : (f : Frame) (a : Account) (code : ℕ) → violation a.log ≡ None → violation (arrived f a).log ≡ Some code
    → (arrived f a).unreported ≡ a.unreported
unfolding arrived
breaks-quietly f a code n v = by (violation_of a f) v
  where
    by : (o : Option ℕ) → violation (arrived_by o f a).log ≡ Some code → (arrived_by o f a).unreported ≡ a.unreported
    by None w =
        let none : violation (arrived_by None f a).log ≡ None = accepted-sound f (with_opening f a) ∙ opening-sound f a ∙ n in
        absurd cc
    by (Some other) w = refl
