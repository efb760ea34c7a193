-- Which frames each step of a session hands over.
use Rattle.std.proofs.Common.{◌∙◌, arith}
use Rattle.std.specs.Prelude.{ℕ, ◌≡◌, ◌<◌, Bool, true, false, not, List, [], ◌∷◌, ◌++◌, length, take, filter, Option, Some, None, refl, if◌then◌else◌, nat_le, bytes_eq}
use Rattle.h2_frames.specs.Frames.{First, first, Unfinished, Whole, Faulty}
use Rattle.h2_frames.specs.declared.frame.Frame.{Frame}
use Rattle.h2_frames.specs.declared.frame.Frame.TheVariants as frame
use Rattle.h2_model.specs.declared.answers.Event.{Event}
use Rattle.h2_model.specs.Codes.{protocol_error, refused_stream}
use Rattle.h2_model.specs.Log.{LogEntry, Log, Opened, Received, Handed, Owed, Given, stream_of}
use Rattle.h2_model.specs.Streams.{is_opened, live_streams}
use Rattle.h2_model.specs.Blocks.{OpenBlock, whole_block}
use Rattle.h2_model.specs.Queue.{whole_within}
use Rattle.h2_model.specs.Account.{Account, is_headless}
use Rattle.h2_model.specs.Violations.{violation_of}
use Rattle.h2_model.specs.Duties.{events_of, owed_for}
use Rattle.h2_model.specs.History.{preface, noted, handed, owing, queue_with, hold, owing_all, reporting_all, reporting, opened_by, with_block, with_opening, accepted, violated, arrived_by, arrived, with_first, with_greeting, with_byte, called, is_violated, unless_violated, headed, released, given, frame_in, is_of, Open, Finish, Reset, Take}
use Rattle.hub_model.specs.HubCalls.{HubConfig, Handing, HandsHead, HandsData}
use Rattle.hub_model.specs.Sending.{frames_handed, session_call}

-- What comes in hands nothing over

owing-same : (f : Frame) (a : Account) → frames_handed (owing f a).log ≡ frames_handed a.log
unfolding owing noted
owing-same f a = by (is_headless a (stream_of f))
  where
    by : (b : Bool) → frames_handed (if b then hold (Owed f) a else queue_with f (noted (Owed f) a)).log ≡ frames_handed a.log
    by true = refl
    by false = refl

owing_all-same : (frames : List Frame) (a : Account) → frames_handed (owing_all frames a).log ≡ frames_handed a.log
owing_all-same [] a = refl
owing_all-same (f ∷ frames) a = owing_all-same frames (owing f a) ∙ owing-same f a

reporting_all-same : (events : List Event) (a : Account) → frames_handed (reporting_all events a).log ≡ frames_handed a.log
unfolding noted
reporting_all-same [] a = refl
reporting_all-same (e ∷ events) a = reporting_all-same events (reporting e a)

block-same : (o : Option OpenBlock) (a : Account) → frames_handed (with_block o a).log ≡ frames_handed a.log
unfolding noted
block-same (Some b) a = refl
block-same None a = refl

opened-same : (known full : Bool) (id : ℕ) (a : Account) → frames_handed (opened_by known full id a).log ≡ frames_handed a.log
unfolding noted
opened-same true full id a = refl
opened-same false true id a = owing-same (frame.Reset id refused_stream) (noted (Opened id) a)
opened-same false false id a = refl

opening-same : (f : Frame) (a : Account) → frames_handed (with_opening f a).log ≡ frames_handed a.log
opening-same (frame.Headers id part last ends) a = opened-same (is_opened id a.log) (nat_le 256 (length (live_streams a.log))) id a
opening-same f a = refl

accepted-same : (f : Frame) (a : Account) → frames_handed (accepted f a).log ≡ frames_handed a.log
unfolding accepted noted
accepted-same f a =
    let a1 : Account = noted (Received f) a in
    let a2 : Account = with_block (whole_block a.log f) a1 in
    let a3 : Account = reporting_all (events_of a f) a2 in
    owing_all-same (owed_for a f) a3 ∙ reporting_all-same (events_of a f) a2 ∙ block-same (whole_block a.log f) a1

arrived_by-same : (o : Option ℕ) (f : Frame) (a : Account) → frames_handed (arrived_by o f a).log ≡ frames_handed a.log
arrived_by-same (Some code) f a = refl
arrived_by-same None f a = accepted-same f (with_opening f a) ∙ opening-same f a

first-same : (x : First) (rest : List ℕ) (a : Account) → frames_handed (with_first x rest a).log ≡ frames_handed a.log
unfolding arrived
first-same Unfinished rest a = refl
first-same (Whole f n) rest a = let b : Account = record a { rest = [] } in arrived_by-same (violation_of b f) f b
first-same (Faulty code) rest a = refl

greeting-same : (rest : List ℕ) (a : Account) → frames_handed (with_greeting rest a).log ≡ frames_handed a.log
greeting-same rest a = by (bytes_eq rest preface) (bytes_eq rest (take (length rest) preface))
  where
    by : (b c : Bool) → frames_handed (if b then record a { greeted = true; rest = [] } else if c then record a { rest = rest } else violated protocol_error a).log ≡ frames_handed a.log
    by true c = refl
    by false true = refl
    by false false = refl

pub byte-same : (b : ℕ) (a : Account) → frames_handed (with_byte b a).log ≡ frames_handed a.log
unfolding with_byte
byte-same b a = by (is_violated a) a.greeted
  where
    by : (x y : Bool) → frames_handed (if x then a else if y then with_first (first (a.rest ++ b ∷ [])) (a.rest ++ b ∷ []) a else with_greeting (a.rest ++ b ∷ []) a).log ≡ frames_handed a.log
    by true y = refl
    by false true = first-same (first (a.rest ++ b ∷ [])) (a.rest ++ b ∷ []) a
    by false false = greeting-same (a.rest ++ b ∷ []) a

-- Neither does an opening, nor what is given

pub open-same : (a : Account) → frames_handed (called Open a).log ≡ frames_handed a.log
unfolding called noted
open-same a = refl

given-same : (frames : List Frame) (log : Log) → frames_handed (given frames log) ≡ frames_handed log
given-same [] log = refl
given-same (f ∷ frames) log = given-same frames (Given f ∷ log)

pub take-same : (n : ℕ) (a : Account) → frames_handed (called (Take n) a).log ≡ frames_handed a.log
unfolding called
take-same n a = given-same (whole_within n a.waiting) a.log

-- A call hands one frame over, and finds no connection error

record Hands (f : Frame) (a b : Account) : Type 0 where
  frames : frames_handed b.log ≡ f ∷ frames_handed a.log
  sound : is_violated b ≡ is_violated a

handed-one : (f : Frame) (a : Account) → Hands f a (handed f a)
unfolding handed noted
handed-one f a = by (is_headless a (stream_of f))
  where
    by : (b : Bool) → Hands f a (if b then hold (Handed f) (noted (Handed f) a) else queue_with f (noted (Handed f) a))
    by true = record { frames = refl; sound = refl }
    by false = record { frames = refl; sound = refl }

record HandsNone (a b : Account) : Type 0 where
  frames : frames_handed b.log ≡ frames_handed a.log
  sound : is_violated b ≡ is_violated a

released-none : (held : List LogEntry) (a : Account) → HandsNone a (released held a)
unfolding noted
released-none [] a = record { frames = refl; sound = refl }
released-none (Owed f ∷ held) a = let r = released-none held (queue_with f (noted (Owed f) a)) in record { frames = r.frames; sound = r.sound }
released-none (Handed f ∷ held) a = let r = released-none held (queue_with f a) in record { frames = r.frames; sound = r.sound }
released-none (e ∷ held) a = let r = released-none held (queue_with (frame_in e) a) in record { frames = r.frames; sound = r.sound }

headed-one : (id : ℕ) (f : Frame) (a : Account) → Hands f a (headed id f a)
unfolding noted
headed-one id f a =
    let b : Account = queue_with f (noted (Handed f) a) in
    let r = released-none (filter (is_of id) b.held) (record b { held = filter (λ e. not (is_of id e)) b.held }) in
    record { frames = r.frames; sound = r.sound }

unless-one : (f : Frame) (a b : Account) → is_violated a ≡ false → Hands f a b → Hands f a (unless_violated a b)
unless-one f a b v h = by (is_violated a) v
  where
    by : (x : Bool) → x ≡ false → Hands f a (if x then a else b)
    by true e = absurd cc
    by false e = h

finish-one : (id : ℕ) (a : Account) → is_violated a ≡ false → Hands (frame.Data id [] true 0) a (called (Finish id) a)
unfolding called
finish-one id a v = unless-one (frame.Data id [] true 0) a (handed (frame.Data id [] true 0) a) v (handed-one (frame.Data id [] true 0) a)

reset-one : (id code : ℕ) (a : Account) → is_violated a ≡ false → Hands (frame.Reset id code) a (called (Reset id code) a)
unfolding called
reset-one id code a v = unless-one (frame.Reset id code) a (handed (frame.Reset id code) a) v (handed-one (frame.Reset id code) a)

pub finish-frames : (id : ℕ) (a : Account) → is_violated a ≡ false → frames_handed (called (Finish id) a).log ≡ frame.Data id [] true 0 ∷ frames_handed a.log
finish-frames id a v = (finish-one id a v).frames

pub finish-violated : (id : ℕ) (a : Account) → is_violated a ≡ false → is_violated (called (Finish id) a) ≡ false
finish-violated id a v = (finish-one id a v).sound ∙ v

pub reset-frames : (id code : ℕ) (a : Account) → is_violated a ≡ false → frames_handed (called (Reset id code) a).log ≡ frame.Reset id code ∷ frames_handed a.log
reset-frames id code a v = (reset-one id code a v).frames

-- the frame of what the hub hands over
abbrev pub handed_frame : Handing → Frame
handed_frame (HandsHead id block) = frame.Headers id block false true
handed_frame (HandsData id bytes) = frame.Data id bytes false (length bytes)

abbrev pub IsSome : Handing → Type 0
IsSome (HandsHead id block) = Unit {0}
IsSome (HandsData id bytes) = 0 < length bytes

no_byte : 0 < 0 → ⊥
no_byte h = omega arith

hands-one : (c : HubConfig) (x : Handing) (a : Account) → IsSome x → is_violated a ≡ false → Hands (handed_frame x) a (called (session_call c x) a)
unfolding called
hands-one c (HandsHead id block) a s v = let f : Frame = frame.Headers id block false true in unless-one f a (headed id f a) v (headed-one id f a)
hands-one c (HandsData id []) a s v = absurd (no_byte s)
hands-one c (HandsData id (b ∷ bytes)) a s v =
    let f : Frame = frame.Data id (b ∷ bytes) false (length (b ∷ bytes)) in unless-one f a (handed f a) v (handed-one f a)

pub hands-frames : (c : HubConfig) (x : Handing) (a : Account) → IsSome x → is_violated a ≡ false → frames_handed (called (session_call c x) a).log ≡ handed_frame x ∷ frames_handed a.log
hands-frames c x a s v = (hands-one c x a s v).frames

pub hands-violated : (c : HubConfig) (x : Handing) (a : Account) → is_violated a ≡ false → is_violated (called (session_call c x) a) ≡ false
unfolding called
hands-violated c (HandsHead id block) a v = (hands-one c (HandsHead id block) a tt v).sound ∙ v
hands-violated c (HandsData id []) a v = v
hands-violated c (HandsData id (b ∷ bytes)) a v = (hands-one c (HandsData id (b ∷ bytes)) a (omega arith) v).sound ∙ v
