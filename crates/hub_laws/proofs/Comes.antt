-- Bytes come in: the frames of every stream of a client keep their order.
use Rattle.std.proofs.Common.{sym, ◌∙◌, ap, subst, arith, inl, inr}
use Rattle.std.specs.Prelude.{ℕ, suc, zero, ◌≡◌, ◌<◌, ◌+◌, ◌%◌, Bool, true, false, not, ◌&&◌, ◌||◌, ◌==◌, List, [], ◌∷◌, ◌++◌, length, take, Option, Some, None, refl, if◌then◌else◌, nat_le, nat_lt, bytes_eq}
use Rattle.std.proofs.lemmas.Bool.{and_parts, eq-eqb, ne_eqb, not-true}
use Rattle.h2_frames.specs.Frames.{First, first, Unfinished, Whole, Faulty}
use Rattle.h2_frames.specs.declared.frame.Frame.{Frame}
use Rattle.h2_frames.specs.declared.frame.Frame.TheVariants as frame
use Rattle.h2_model.specs.declared.answers.Event.{Event}
use Rattle.h2_model.specs.declared.answers.Event.TheVariants as event
use Rattle.h2_model.specs.Codes.{first_row, protocol_error}
use Rattle.h2_model.specs.Log.{Log, Block, Opened, Owed, Received, Reported, stream_of}
use Rattle.h2_model.specs.Streams.{greatest, resets, is_ended_by_peer, is_ended_here, is_live, is_opened, is_reset, live_streams, opened}
use Rattle.h2_model.specs.Blocks.{OpenBlock, decoded_with, fields_or_none, open_block, whole_block}
use Rattle.ext_msgs.specs.declared.lists.Field.{Field}
use Rattle.h2_model.specs.Queue.{is_reset_frame}
use Rattle.h2_model.specs.Account.{Account, is_headless}
use Rattle.h2_model.specs.Windows.{unreturned}
use Rattle.h2_model.specs.StreamFaults.{block_rows, data_rows, fault_of_block, on_live, stream_fault, update_rows, with_stream}
use Rattle.h2_model.specs.Violations.{breaks_block, is_first, is_on_unopened, is_push, is_settings, may_open, violation_of}
use Rattle.h2_model.specs.Duties.{events_of, events_by, is_open_from_peer, owed_for, reset_for, update, updates}
use Rattle.h2_model.specs.History.{Open, accepted, arrived, arrived_by, called, hold, is_violated, next_number, noted, opened_by, owing, owing_all, preface, queue_with, reporting, reporting_all, violated, with_block, with_byte, with_first, with_greeting, with_opening}
use Rattle.hub_laws.specs.Outgoing.{Said, is_sent_on}
use Rattle.hub_laws.proofs.Courses.{clash}
use Rattle.hub_laws.proofs.Steps.{Silent}
use Rattle.hub_laws.proofs.Ordered.{IsOrdered, aim, entry-ordered, forget, gone-same}
use Rattle.hub_laws.proofs.Calls.{owes-apart, owes-reset}
use Rattle.hub_laws.proofs.Taken.{violated-ordered, zero-other}

-- a client's session
pub record Client (a : Account) : Type 0 where
  pub client : a.client ≡ true
  pub zero : is_opened 0 a.log ≡ false
  pub ordered : IsOrdered 0 a

-- Entries of what comes

received-silent : (f : Frame) (log : Log) (id : ℕ) → Silent id (Received f) log
received-silent f log id = record { handed = refl; ended = refl; sound = refl; head = refl; given = gone-same id (Received f) log refl }

block-silent : (n : ℕ) (bytes : List ℕ) (last : Bool) (log : Log) (id : ℕ) → Silent id (Block n bytes last) log
block-silent n bytes last log id = record { handed = refl; ended = refl; sound = refl; head = refl; given = gone-same id (Block n bytes last) log refl }

reported-silent : (e : Event) (log : Log) (id : ℕ) → Silent id (Reported e) log
reported-silent e log id = record { handed = refl; ended = refl; sound = refl; head = refl; given = gone-same id (Reported e) log refl }

-- what goes along, for a stream m
record Along (m : ℕ) (a : Account) : Type 0 where
  client : a.client ≡ true
  ordered : IsOrdered m a

received-along : (m : ℕ) (f : Frame) (a : Account) → Along m a → Along m (noted (Received f) a)
unfolding noted
received-along m f a s = record { client = s.client; ordered = entry-ordered m (Received f) a (received-silent f a.log) s.ordered }

block-along : (m : ℕ) (o : Option OpenBlock) (a : Account) → Along m a → Along m (with_block o a)
unfolding noted
block-along m None a s = s
block-along m (Some b) a s = record { client = s.client; ordered = entry-ordered m (Block b.stream b.bytes b.last) a (block-silent b.stream b.bytes b.last a.log) s.ordered }

told-along : (m : ℕ) (es : List Event) (a : Account) → Along m a → Along m (reporting_all es a)
unfolding noted
told-along m [] a s = s
told-along m (e ∷ es) a s = told-along m es (reporting e a) (record { client = s.client; ordered = tell (entry-ordered m (Reported e) a (reported-silent e a.log) s.ordered) })
  where
    tell : IsOrdered m (noted (Reported e) a) → IsOrdered m (reporting e a)
    tell o = o

-- which streams were opened stays

block-opened : (id : ℕ) (o : Option OpenBlock) (a : Account) → is_opened id (with_block o a).log ≡ is_opened id a.log
unfolding noted
block-opened id None a = refl
block-opened id (Some b) a = refl

told-opened : (id : ℕ) (es : List Event) (a : Account) → is_opened id (reporting_all es a).log ≡ is_opened id a.log
unfolding noted
told-opened id [] a = refl
told-opened id (e ∷ es) a = told-opened id es (reporting e a)

owing-opened : (id : ℕ) (f : Frame) (a : Account) → is_opened id (owing f a).log ≡ is_opened id a.log
unfolding owing noted
owing-opened id f a = by (is_headless a (stream_of f))
  where
    by : (b : Bool) → is_opened id (if b then hold (Owed f) a else queue_with f (noted (Owed f) a)).log ≡ is_opened id a.log
    by true = refl
    by false = refl

owing_all-opened : (id : ℕ) (fs : List Frame) (a : Account) → is_opened id (owing_all fs a).log ≡ is_opened id a.log
owing_all-opened id [] a = refl
owing_all-opened id (f ∷ fs) a = owing_all-opened id fs (owing f a) ∙ owing-opened id f a

-- What is owed

received-opened : (id : ℕ) (f : Frame) (a : Account) → is_opened id (noted (Received f) a).log ≡ is_opened id a.log
unfolding noted
received-opened id f a = refl

opened-zero : (n : ℕ) (a : Account) → (n == 0) ≡ false → is_opened 0 a.log ≡ false → is_opened 0 (noted (Opened n) a).log ≡ false
unfolding noted
opened-zero n a h z = ap (λ b. b || is_opened 0 a.log) h ∙ z

owing-client : (f : Frame) (a : Account) → (owing f a).client ≡ a.client
unfolding owing noted
owing-client f a = by (is_headless a (stream_of f))
  where
    by : (b : Bool) → (if b then hold (Owed f) a else queue_with f (noted (Owed f) a)).client ≡ a.client
    by true = refl
    by false = refl

-- frames of no stream's course
abbrev pub AreApart : List Frame → Type 0
AreApart [] = Unit {0}
AreApart (f ∷ fs) = ((id : ℕ) → 0 < id → is_sent_on id f ≡ false) × (is_reset_frame f ≡ false) × AreApart fs

apart-both : (xs ys : List Frame) → AreApart xs → AreApart ys → AreApart (xs ++ ys)
apart-both [] ys p q = q
apart-both (x ∷ xs) ys p q = (p.0, p.1, apart-both xs ys p.2 q)

update-apart : (id size : ℕ) (log : Log) → AreApart (update id size log)
update-apart id size log = by (nat_le 32768 (unreturned id log + size))
  where
    by : (b : Bool) → AreApart (if b then frame.Window id (unreturned id log + size) ∷ [] else [])
    by true = ((λ j p. refl), refl, tt)
    by false = tt

updates-apart : (a : Account) (id : ℕ) (last : Bool) (size : ℕ) → AreApart (updates a id last size)
updates-apart a id last size = apart-both (update 0 size a.log) _ (update-apart 0 size a.log) (by (is_open_from_peer a id last))
  where
    by : (b : Bool) → AreApart (if b then update id size a.log else [])
    by true = update-apart id size a.log
    by false = tt

owes-all : (m : ℕ) (fs : List Frame) (a : Account) → AreApart fs → Along m a → Along m (owing_all fs a)
owes-all m [] a p s = s
owes-all m (f ∷ fs) a p s =
    owes-all m fs (owing f a) p.2 (record { client = owing-client f a ∙ s.client; ordered = owes-apart m f a p.0 p.1 s.ordered })

-- the session is about to reset a stream
record Ready (n code : ℕ) (a : Account) : Type 0 where
  along : Along n a
  there : 0 < n
  opened : is_opened n a.log ≡ true
  reset : is_reset n a.log ≡ true
  told : Said (Reported (event.Reset n code)) a.log

still-ready : (n code : ℕ) (f : Frame) (a : Account) → ((id : ℕ) → 0 < id → is_sent_on id f ≡ false) → is_reset_frame f ≡ false → Ready n code a → Ready n code (owing f a)
unfolding owing noted
still-ready n code f a p q r = record {
  along = record { client = owing-client f a ∙ r.along.client; ordered = owes-apart n f a p q r.along.ordered };
  there = r.there;
  opened = owing-opened n f a ∙ r.opened;
  reset = reset (is_headless a (stream_of f));
  told = told (is_headless a (stream_of f));
}
  where
    reset : (b : Bool) → is_reset n (if b then hold (Owed f) a else queue_with f (noted (Owed f) a)).log ≡ true
    reset true = r.reset
    reset false = or_last (resets n (Owed f)) (is_reset n a.log) r.reset
      where
        or_last : (a b : Bool) → b ≡ true → (a || b) ≡ true
        or_last true b h = refl
        or_last false b h = h

    told : (b : Bool) → Said (Reported (event.Reset n code)) (if b then hold (Owed f) a else queue_with f (noted (Owed f) a)).log
    told true = r.told
    told false = inr r.told

ready : (n code : ℕ) (b : Account) → 0 < n → is_opened n b.log ≡ true → Along n (reporting_all (event.Reset n code ∷ []) b)
    → Ready n code (reporting_all (event.Reset n code ∷ []) b)
unfolding noted
ready n code b p o x = record {
  along = x;
  there = p;
  opened = o;
  reset = ap (λ c. c || is_reset n b.log) (eq-eqb n n refl);
  told = inl refl;
}

all-ready : (n code : ℕ) (fs : List Frame) (a : Account) → AreApart fs → Ready n code a → Ready n code (owing_all fs a)
all-ready n code [] a p r = r
all-ready n code (f ∷ fs) a p r = all-ready n code fs (owing f a) p.2 (still-ready n code f a p.0 p.1 r)

owing_all-both : (xs ys : List Frame) (a : Account) → owing_all (xs ++ ys) a ≡ owing_all ys (owing_all xs a)
owing_all-both [] ys a = refl
owing_all-both (x ∷ xs) ys a = owing_all-both xs ys (owing x a)

-- by the fault of the frame's stream
abbrev Faults : Account → Option (ℕ × ℕ) → Account → Type 0
Faults a None b = Along 0 b
Faults a (Some s) b = Ready s.0 s.1 b

faults-along : (a : Account) (o : Option (ℕ × ℕ)) (b : Account) → Faults a o b → IsOrdered 0 b
faults-along a None b r = r.ordered
faults-along a (Some s) b r = forget s.0 b.log b.waiting b.held r.along.ordered

faults-apart : (a : Account) (o : Option (ℕ × ℕ)) (fs : List Frame) (b : Account) → AreApart fs → Faults a o b → Faults a o (owing_all fs b)
faults-apart a None fs b p r = owes-all 0 fs b p r
faults-apart a (Some s) fs b p r = all-ready s.0 s.1 fs b p r

faults-reset : (a : Account) (o : Option (ℕ × ℕ)) (b : Account) → Faults a o b → IsOrdered 0 (owing_all (reset_for o) b)
faults-reset a None b r = r.ordered
faults-reset a (Some s) b r = owes-reset s.0 s.1 b r.there r.along.client r.opened r.reset r.told r.along.ordered

owed-ordered : (a : Account) (f : Frame) (b : Account) → Faults a (stream_fault a f) b → IsOrdered 0 (owing_all (owed_for a f) b)
unfolding owed_for
owed-ordered a (frame.Settings list) b r =
    faults-along a (stream_fault a (frame.Settings list)) (owing_all (frame.SettingsAck ∷ []) b)
    (faults-apart a (stream_fault a (frame.Settings list)) (frame.SettingsAck ∷ []) b ((λ j p. zero-other j p), refl, tt) r)
owed-ordered a (frame.Ping ack bytes) b r = by ack
  where
    o : Option (ℕ × ℕ)
    o = stream_fault a (frame.Ping ack bytes)

    by : (x : Bool) → IsOrdered 0 (owing_all (if x then [] else frame.Ping true bytes ∷ []) b)
    by true = faults-along a o b r
    by false = faults-along a o (owing_all (frame.Ping true bytes ∷ []) b) (faults-apart a o (frame.Ping true bytes ∷ []) b ((λ j p. zero-other j p), refl, tt) r)
owed-ordered a (frame.Data id bytes last size) b r =
    let o : Option (ℕ × ℕ) = stream_fault a (frame.Data id bytes last size) in
    subst (IsOrdered 0) (sym (owing_all-both (updates a id last size) (reset_for o) b))
    (faults-reset a o (owing_all (updates a id last size) b) (faults-apart a o (updates a id last size) b (updates-apart a id last size) r))
owed-ordered a (frame.Headers n block last ends) b r = faults-reset a (stream_fault a (frame.Headers n block last ends)) b r
owed-ordered a (frame.Priority n) b r = faults-reset a (stream_fault a (frame.Priority n)) b r
owed-ordered a (frame.Reset n code) b r = faults-reset a (stream_fault a (frame.Reset n code)) b r
owed-ordered a frame.SettingsAck b r = faults-reset a (stream_fault a frame.SettingsAck) b r
owed-ordered a (frame.Push n) b r = faults-reset a (stream_fault a (frame.Push n)) b r
owed-ordered a (frame.GoAway last code) b r = faults-reset a (stream_fault a (frame.GoAway last code)) b r
owed-ordered a (frame.Window n k) b r = faults-reset a (stream_fault a (frame.Window n k)) b r
owed-ordered a (frame.Continuation n block ends) b r = faults-reset a (stream_fault a (frame.Continuation n block ends)) b r
owed-ordered a (frame.Unknown kind) b r = faults-reset a (stream_fault a (frame.Unknown kind)) b r

-- a stream with a fault lives

abbrev IsLiveFault : Log → Option (ℕ × ℕ) → Type 0
IsLiveFault log None = Unit {0}
IsLiveFault log (Some s) = is_live s.0 log ≡ true

on-live : (a : Account) (id : ℕ) (rows : List (Bool × ℕ)) → IsLiveFault a.log (on_live a id rows)
on-live a id rows = by (is_live id a.log) refl (first_row rows)
  where
    by : (x : Bool) → is_live id a.log ≡ x → (r : Option ℕ) → IsLiveFault a.log (if x then with_stream id r else None)
    by true l None = tt
    by true l (Some code) = l
    by false l r = tt

block-live : (a : Account) (fields : List Field) (o : Option OpenBlock) → IsLiveFault a.log (fault_of_block a fields o)
block-live a fields None = tt
block-live a fields (Some b) = on-live a b.stream (block_rows a b fields)

fault-live : (a : Account) (f : Frame) → IsLiveFault a.log (stream_fault a f)
unfolding stream_fault
fault-live a (frame.Window id n) = on-live a id (update_rows a id n)
fault-live a (frame.Data id bytes last size) = on-live a id (data_rows a id)
fault-live a f = block-live a (fields_or_none (decoded_with a.log f)) (whole_block a.log f)

pub live-parts : (id : ℕ) (log : Log) → is_live id log ≡ true → (is_opened id log ≡ true) × (is_reset id log ≡ false)
live-parts id log l =
    let p = and_parts (is_opened id log && not (is_reset id log)) (not (is_ended_by_peer id log && is_ended_here id log)) l in
    let q = and_parts (is_opened id log) (not (is_reset id log)) p.0 in (q.0, not-true (is_reset id log) q.1)

pub opened-there : (id : ℕ) (log : Log) → is_opened id log ≡ true → is_opened 0 log ≡ false → 0 < id
opened-there zero log o z = absurd (clash (is_opened 0 log) o z)
opened-there (suc n) log o z = omega arith

-- A frame

accepted-ordered : (f : Frame) (a : Account) → Client a → IsOrdered 0 (accepted f a)
unfolding accepted events_of
accepted-ordered f a s = by (stream_fault a f) refl (fault-live a f)
  where
    a1 : Account
    a1 = noted (Received f) a

    a2 : Account
    a2 = with_block (whole_block a.log f) a1

    along : (m : ℕ) → Along m a → Along m a2
    along m x = block-along m (whole_block a.log f) a1 (received-along m f a x)

    by : (o : Option (ℕ × ℕ)) → stream_fault a f ≡ o → IsLiveFault a.log o → IsOrdered 0 (owing_all (owed_for a f) (reporting_all (events_by a f (stream_fault a f)) a2))
    by None e l =
        owed-ordered a f (reporting_all (events_by a f (stream_fault a f)) a2)
        (subst (λ o. Faults a o (reporting_all (events_by a f (stream_fault a f)) a2)) (sym e)
        (told-along 0 (events_by a f (stream_fault a f)) a2 (along 0 (record { client = s.client; ordered = s.ordered }))))
    by (Some x) e l =
        let p = live-parts x.0 a.log l in
        owed-ordered a f (reporting_all (events_by a f (stream_fault a f)) a2)
        (subst (λ o. Faults a o (reporting_all (events_by a f o) a2)) (sym e)
        (resetting x.0 x.1 a2 (opened-there x.0 a.log p.0 s.zero) (block-opened x.0 (whole_block a.log f) a1 ∙ received x.0 ∙ p.0)
        (along x.0 (record { client = s.client; ordered = aim x.0 a.log a.waiting a.held p.1 s.ordered }))))
      where
        received : (id : ℕ) → is_opened id (noted (Received f) a).log ≡ is_opened id a.log
        received id = received-opened id f a

        resetting : (n code : ℕ) (b : Account) → 0 < n → is_opened n b.log ≡ true → Along n b → Ready n code (reporting_all (event.Reset n code ∷ []) b)
        resetting n code b p o x = ready n code b p o (told-along n (event.Reset n code ∷ []) b x)

accepted-opened : (id : ℕ) (f : Frame) (a : Account) → is_opened id (accepted f a).log ≡ is_opened id a.log
unfolding accepted
accepted-opened id f a =
    let a1 : Account = noted (Received f) a in
    let a2 : Account = with_block (whole_block a.log f) a1 in
    owing_all-opened id (owed_for a f) (reporting_all (events_of a f) a2) ∙ told-opened id (events_of a f) a2 ∙ block-opened id (whole_block a.log f) a1
    ∙ received-opened id f a

owing_all-client : (fs : List Frame) (a : Account) → (owing_all fs a).client ≡ a.client
owing_all-client [] a = refl
owing_all-client (f ∷ fs) a = owing_all-client fs (owing f a) ∙ owing-client f a

told-client : (es : List Event) (a : Account) → (reporting_all es a).client ≡ a.client
unfolding noted
told-client [] a = refl
told-client (e ∷ es) a = told-client es (reporting e a)

accepted-client : (f : Frame) (a : Account) → (accepted f a).client ≡ a.client
unfolding accepted noted
accepted-client f a =
    let a1 : Account = noted (Received f) a in
    let a2 : Account = with_block (whole_block a.log f) a1 in
    owing_all-client (owed_for a f) (reporting_all (events_of a f) a2) ∙ told-client (events_of a f) a2 ∙ block (whole_block a.log f) a1
  where
    block : (o : Option OpenBlock) (b : Account) → (with_block o b).client ≡ b.client
    block None b = refl
    block (Some x) b = refl

-- a peer of a client opens no stream

fourth : (r1 r2 r3 r4 : Bool) (c1 c2 c3 c4 : ℕ) (rest : Option ℕ)
    → (if r1 then Some c1 else if r2 then Some c2 else if r3 then Some c3 else if r4 then Some c4 else rest) ≡ None → r4 ≡ false
fourth true r2 r3 r4 c1 c2 c3 c4 rest e = absurd cc
fourth false true r3 r4 c1 c2 c3 c4 rest e = absurd cc
fourth false false true r4 c1 c2 c3 c4 rest e = absurd cc
fourth false false false true c1 c2 c3 c4 rest e = absurd cc
fourth false false false false c1 c2 c3 c4 rest e = refl

known-stream : (a : Account) (f : Frame) → violation_of a f ≡ None → is_on_unopened a f ≡ false
unfolding violation_of
known-stream a f e = fourth (is_first a && not (is_settings f)) (breaks_block (open_block a.log) f) (is_push f) (is_on_unopened a f) _ _ _ _ _ e

opening-same : (f : Frame) (a : Account) → a.client ≡ true → violation_of a f ≡ None → with_opening f a ≡ a
opening-same (frame.Headers id part last ends) a c v = by (is_opened id a.log) (is_opened id a.log) refl refl (known-stream a (frame.Headers id part last ends) v)
  where
    closed : may_open a id ≡ false
    closed = ap (λ b. not b && ((id % 2) == 1) && nat_lt (greatest (opened a.log)) id) c

    by : (x y : Bool) → is_opened id a.log ≡ x → y ≡ x → (not y && not (may_open a id)) ≡ false → opened_by x (nat_le 256 (length (live_streams a.log))) id a ≡ a
    by true y e q h = refl
    by false true e q h = absurd cc
    by false false e q h = absurd (clash (not (may_open a id)) (ap not closed) h)
opening-same f a c v = refl

with-rest : (rest : List ℕ) (greeted : Bool) (a : Account) → Client a → Client (record a { rest = rest; greeted = greeted })
with-rest rest greeted a s = record { client = s.client; zero = s.zero; ordered = s.ordered }

fails : (code : ℕ) (a : Account) → Client a → Client (violated code a)
fails code a s = record { client = s.client; zero = s.zero; ordered = violated-ordered code a s.ordered }

arrives : (f : Frame) (a : Account) → Client a → Client (arrived f a)
unfolding arrived
arrives f a s = by (violation_of a f) refl
  where
    by : (o : Option ℕ) → violation_of a f ≡ o → Client (arrived_by o f a)
    by (Some code) e = fails code a s
    by None e = subst (λ b. Client (accepted f b)) (sym (opening-same f a s.client e))
        (record { client = accepted-client f a ∙ s.client; zero = accepted-opened 0 f a ∙ s.zero; ordered = accepted-ordered f a s })

first-comes : (x : First) (rest : List ℕ) (a : Account) → Client a → Client (with_first x rest a)
first-comes Unfinished rest a s = with-rest rest a.greeted a s
first-comes (Whole f n) rest a s = arrives f (record a { rest = [] }) (with-rest [] a.greeted a s)
first-comes (Faulty code) rest a s = fails code a s

greeting-comes : (rest : List ℕ) (a : Account) → Client a → Client (with_greeting rest a)
greeting-comes rest a s = by (bytes_eq rest preface) (bytes_eq rest (take (length rest) preface))
  where
    by : (x y : Bool) → Client (if x then record a { greeted = true; rest = [] } else if y then record a { rest = rest } else violated protocol_error a)
    by true y = with-rest [] true a s
    by false true = with-rest rest a.greeted a s
    by false false = fails protocol_error a s

pub byte-comes : (b : ℕ) (a : Account) → Client a → Client (with_byte b a)
unfolding with_byte
byte-comes b a s = by (is_violated a) a.greeted
  where
    by : (x y : Bool) → Client (if x then a else if y then with_first (first (a.rest ++ b ∷ [])) (a.rest ++ b ∷ []) a else with_greeting (a.rest ++ b ∷ []) a)
    by true y = s
    by false true = first-comes (first (a.rest ++ b ∷ [])) (a.rest ++ b ∷ []) a s
    by false false = greeting-comes (a.rest ++ b ∷ []) a s

-- A stream is opened

pub opens : (a : Account) → Client a → Client (called Open a)
unfolding called noted
opens a s = record { client = s.client; zero = zero; ordered = entry-ordered 0 (Opened (next_number a)) a silent s.ordered }
  where
    silent : (id : ℕ) → Silent id (Opened (next_number a)) a.log
    silent id = record { handed = refl; ended = refl; sound = refl; head = refl; given = gone-same id (Opened (next_number a)) a.log refl }

    zero : is_opened 0 (noted (Opened (next_number a)) a).log ≡ false
    zero = opened-zero (next_number a) a (ne_eqb (next_number a) 0 (λ e. never e)) s.zero
      where
        never : next_number a ≡ 0 → ⊥
        never e = omega arith
