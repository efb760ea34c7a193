-- Every byte and every call only adds to the log.
use Rattle.std.proofs.Common.{◌≡◌, ℕ, Bool, true, false, List, [], ◌∷◌, ◌++◌, refl, sym, ◌∙◌, ap, Option, Some, None, nat_le, length, take, if◌then◌else◌, not, filter, bytes_eq}
use Rattle.std.proofs.lemmas.List.{append_assoc}
use Rattle.h2_frames.specs.Frames.{First, first, Unfinished, Whole, Faulty}
use Rattle.h2_frames.specs.declared.frame.Frame.{Frame}
use Rattle.h2_frames.specs.declared.frame.Frame.TheVariants as frame
use Rattle.h2_model.specs.declared.answers.Event.{Event}
use Rattle.h2_model.specs.Codes.{protocol_error, refused_stream}
use Rattle.h2_model.specs.Log.{LogEntry, Log, Opened, Received, Block, Handed, Owed, Given, Reported, stream_of, is_empty}
use Rattle.h2_model.specs.Streams.{is_opened, live_streams}
use Rattle.h2_model.specs.Blocks.{OpenBlock, whole_block}
use Rattle.h2_model.specs.Queue.{whole_within}
use Rattle.h2_model.specs.Account.{Account, is_headless}
use Rattle.h2_model.specs.Violations.{violation_of}
use Rattle.h2_model.specs.Duties.{events_of, owed_for}
use Rattle.h2_model.specs.History.{preface, noted, handed, owing, queue_with, hold, owing_all, reporting_all, reporting, opened_by, with_block, with_opening, accepted, violated, arrived_by, arrived, with_first, with_greeting, with_byte, with_bytes, called, is_violated, unless_violated, headed, released, given, frame_in, is_of, next_number, Call, Feed, Open, Head, Send, Finish, Reset, Take}

-- new begins with more entries, and goes on as old
pub record Grows (old new : Account) : Type 0 where
  pub more : Log
  pub log : new.log ≡ more ++ old.log

same-log : (a b : Account) → b.log ≡ a.log → Grows a b
same-log a b e = record { more = []; log = e }

chain : (a b c : Account) → Grows a b → Grows b c → Grows a c
chain a b c x y = record { more = y.more ++ x.more; log = y.log ∙ ap (λ l. y.more ++ l) x.log ∙ sym (append_assoc y.more x.more a.log) }

noted-grows : (e : LogEntry) (a : Account) → Grows a (noted e a)
unfolding noted
noted-grows e a = record { more = e ∷ []; log = refl }

handed-grows : (f : Frame) (a : Account) → Grows a (handed f a)
unfolding handed noted
handed-grows f a = by (is_headless a (stream_of f))
  where
    by : (b : Bool) → Grows a (if b then hold (Handed f) (noted (Handed f) a) else queue_with f (noted (Handed f) a))
    by true = record { more = Handed f ∷ []; log = refl }
    by false = record { more = Handed f ∷ []; log = refl }

owing-grows : (f : Frame) (a : Account) → Grows a (owing f a)
unfolding owing noted
owing-grows f a = by (is_headless a (stream_of f))
  where
    by : (b : Bool) → Grows a (if b then hold (Owed f) a else queue_with f (noted (Owed f) a))
    by true = record { more = []; log = refl }
    by false = record { more = Owed f ∷ []; log = refl }

owing-all-grows : (frames : List Frame) (a : Account) → Grows a (owing_all frames a)
owing-all-grows [] a = same-log a a refl
owing-all-grows (f ∷ frames) a = chain a (owing f a) (owing_all frames (owing f a)) (owing-grows f a) (owing-all-grows frames (owing f a))

reporting-all-grows : (events : List Event) (a : Account) → Grows a (reporting_all events a)
unfolding noted
reporting-all-grows [] a = same-log a a refl
reporting-all-grows (e ∷ events) a =
    chain a (reporting e a) (reporting_all events (reporting e a)) (record { more = Reported e ∷ []; log = refl }) (reporting-all-grows events (reporting e a))

block-grows : (o : Option OpenBlock) (a : Account) → Grows a (with_block o a)
block-grows (Some b) a = noted-grows (Block b.stream b.bytes b.last) a
block-grows None a = same-log a a refl

opened-grows : (known full : Bool) (id : ℕ) (a : Account) → Grows a (opened_by known full id a)
opened-grows true full id a = same-log a a refl
opened-grows false true id a =
    chain a (noted (Opened id) a) (owing (frame.Reset id refused_stream) (noted (Opened id) a)) (noted-grows (Opened id) a) (owing-grows (frame.Reset id refused_stream) (noted (Opened id) a))
opened-grows false false id a = noted-grows (Opened id) a

opening-grows : (f : Frame) (a : Account) → Grows a (with_opening f a)
opening-grows (frame.Headers id part last ends) a = opened-grows (is_opened id a.log) (nat_le 256 (length (live_streams a.log))) id a
opening-grows f a = same-log a a refl

accepted-grows : (f : Frame) (a : Account) → Grows a (accepted f a)
unfolding accepted
accepted-grows f a =
    let a1 : Account = noted (Received f) a in
    let a2 : Account = with_block (whole_block a.log f) a1 in
    let a3 : Account = reporting_all (events_of a f) a2 in
    chain a a3 (owing_all (owed_for a f) a3)
    (chain a a2 a3 (chain a a1 a2 (noted-grows (Received f) a) (block-grows (whole_block a.log f) a1)) (reporting-all-grows (events_of a f) a2))
    (owing-all-grows (owed_for a f) a3)

violated-grows : (code : ℕ) (a : Account) → Grows a (violated code a)
violated-grows code a = record { more = _ ∷ _ ∷ []; log = refl }

arrived-by-grows : (o : Option ℕ) (f : Frame) (a : Account) → Grows a (arrived_by o f a)
arrived-by-grows (Some code) f a = violated-grows code a
arrived-by-grows None f a = chain a (with_opening f a) (accepted f (with_opening f a)) (opening-grows f a) (accepted-grows f (with_opening f a))

arrived-grows : (f : Frame) (a : Account) → Grows a (arrived f a)
unfolding arrived
arrived-grows f a = arrived-by-grows (violation_of a f) f a

first-grows : (x : First) (rest : List ℕ) (a : Account) → Grows a (with_first x rest a)
first-grows Unfinished rest a = same-log a (record a { rest = rest }) refl
first-grows (Whole f n) rest a = let b : Account = record a { rest = [] } in let g : Grows b (arrived f b) = arrived-grows f b in record { more = g.more; log = g.log }
first-grows (Faulty code) rest a = violated-grows code a

greeting-grows : (rest : List ℕ) (a : Account) → Grows a (with_greeting rest a)
greeting-grows rest a = by (bytes_eq rest preface) (bytes_eq rest (take (length rest) preface))
  where
    by : (b c : Bool) → Grows a (if b then record a { greeted = true; rest = [] } else if c then record a { rest = rest } else violated protocol_error a)
    by true c = same-log a (record a { greeted = true; rest = [] }) refl
    by false true = same-log a (record a { rest = rest }) refl
    by false false = violated-grows protocol_error a

byte-grows : (b : ℕ) (a : Account) → Grows a (with_byte b a)
unfolding with_byte
byte-grows b a = by (is_violated a) a.greeted
  where
    by : (x y : Bool) → Grows a (if x then a else if y then with_first (first (a.rest ++ b ∷ [])) (a.rest ++ b ∷ []) a else with_greeting (a.rest ++ b ∷ []) a)
    by true y = same-log a a refl
    by false true = first-grows (first (a.rest ++ b ∷ [])) (a.rest ++ b ∷ []) a
    by false false = greeting-grows (a.rest ++ b ∷ []) a

bytes-grow : (bytes : List ℕ) (a : Account) → Grows a (with_bytes bytes a)
bytes-grow [] a = same-log a a refl
bytes-grow (b ∷ bytes) a = chain a (with_byte b a) (with_bytes bytes (with_byte b a)) (byte-grows b a) (bytes-grow bytes (with_byte b a))

released-grows : (held : List LogEntry) (a : Account) → Grows a (released held a)
unfolding noted
released-grows [] a = same-log a a refl
released-grows (Owed f ∷ held) a =
    let b : Account = queue_with f (noted (Owed f) a) in
    chain a b (released held b) (record { more = Owed f ∷ []; log = refl }) (released-grows held b)
released-grows (e ∷ held) a =
    let b : Account = queue_with (frame_in e) a in
    chain a b (released held b) (record { more = []; log = refl }) (released-grows held b)

headed-grows : (id : ℕ) (f : Frame) (a : Account) → Grows a (headed id f a)
unfolding noted
headed-grows id f a =
    let b : Account = queue_with f (noted (Handed f) a) in
    let c : Account = record b { held = filter (λ e. not (is_of id e)) b.held } in
    let g : Grows c (released (filter (is_of id) b.held) c) = released-grows (filter (is_of id) b.held) c in
    record { more = g.more ++ Handed f ∷ []; log = g.log ∙ sym (append_assoc g.more (Handed f ∷ []) a.log) }

given-grows : (frames : List Frame) (log : Log) → (more : Log) × (given frames log ≡ more ++ log)
given-grows [] log = ([], refl)
given-grows (f ∷ frames) log =
    let g : (more : Log) × (given frames (Given f ∷ log) ≡ more ++ Given f ∷ log) = given-grows frames (Given f ∷ log) in
    (g.0 ++ Given f ∷ [], g.1 ∙ sym (append_assoc g.0 (Given f ∷ []) log))

unless-grows : (a b : Account) → Grows a b → Grows a (unless_violated a b)
unless-grows a b g = by (is_violated a)
  where
    by : (x : Bool) → Grows a (if x then a else b)
    by true = same-log a a refl
    by false = g

call-grows : (call : Call) (a : Account) → Grows a (called call a)
unfolding called
call-grows (Feed bytes) a = let g : Grows a (with_bytes bytes a) = bytes-grow bytes a in record { more = g.more; log = g.log }
call-grows Open a = noted-grows (Opened (next_number a)) a
call-grows (Head id fields block last) a = unless-grows a _ (headed-grows id (frame.Headers id block last true) a)
call-grows (Send id bytes) a = by (is_empty bytes)
  where
    by : (x : Bool) → Grows a (if x then a else unless_violated a (handed (frame.Data id bytes false (length bytes)) a))
    by true = same-log a a refl
    by false = unless-grows a _ (handed-grows (frame.Data id bytes false (length bytes)) a)
call-grows (Finish id) a = unless-grows a _ (handed-grows (frame.Data id [] true 0) a)
call-grows (Reset id code) a = unless-grows a _ (handed-grows (frame.Reset id code) a)
call-grows (Take n) a =
    let g : (more : Log) × (given (whole_within n a.waiting) a.log ≡ more ++ a.log) = given-grows (whole_within n a.waiting) a.log in
    record { more = g.0; log = g.1 }

pub grown : (call : Call) (a : Account) → (more : Log) × ((called call a).log ≡ more ++ a.log)
grown call a = let g : Grows a (called call a) = call-grows call a in (g.more, g.log)
