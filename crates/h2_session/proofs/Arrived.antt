-- A frame came: what a session holds then, and what it tells.
use Rattle.std.proofs.Common.{◌≡◌, ℕ, Bool, true, false, ◌&&◌, ◌<◌, List, [], ◌∷◌, Option, Some, None, drop, take, refl, sym, ◌∙◌, ap, subst, nat_le, nat_lt, length, if◌then◌else◌}
use Rattle.hpack_core.specs.Tables as hpack
use Rattle.hpack_core.specs.Reading.{block_of}
use Rattle.h2_frames.specs.Frames.{first}
use Rattle.h2_frames.specs.declared.frame.Frame.{Frame}
use Rattle.h2_frames.specs.declared.frame.Frame.TheVariants as frame
use Rattle.h2_model.specs.declared.answers.Event.{Event}
use Rattle.h2_model.specs.Account.{Account, is_headless}
use Rattle.h2_model.specs.Blocks.{OpenBlock, block_with, blocks, decoded_by, ends_block, fields_or_none, open_block, table_after, whole_block}
use Rattle.h2_model.specs.Codes.{first_row}
use Rattle.h2_model.specs.Duties.{events_of, owed_for}
use Rattle.h2_model.specs.History.{accepted, answered, arrived, arrived_by, noted, owing, owing_all, preface, reporting, reporting_all, violated, with_block, with_opening}
use Rattle.h2_model.specs.Log.{Received, violation}
use Rattle.h2_model.specs.State.{State, seen}
use Rattle.h2_model.specs.Streams.{is_opened}
use Rattle.h2_model.specs.Violations.{is_long, violation_of}
use Rattle.h2_laws_log.specs.Steps.{arriving, opening_for}
use Rattle.h2_laws_log.specs.Steps as arrivals
use Rattle.h2_laws_log.proofs.Arrives.{Ready, arrives, no-violation, ready, sound-aside}
use Rattle.h2_laws_log.proofs.Owes.{SameStreams, owing-stays, same-headless}
use Rattle.h2_laws_log.proofs.Arrivals.{arrived-sound}
use Rattle.h2_laws_log.proofs.Same.{zero-unopened}
use Rattle.h2_laws_log.proofs.Unless.{answered-seen, answered-sound, answered-valid}
use Rattle.h2_laws_log.proofs.Keeps.{keeps-arrived}
use Rattle.h2_laws_log.proofs.RoomArrives.{arrived-counted}
use Rattle.h2_laws_log.proofs.RoomCalls.{answered-counted}
use Rattle.h2_streams.specs.Rows.{early_rows, late_rows, code_of}
use Rattle.h2_streams.proofs.Rows.{ended-block, no-block, or_row, violation-parts}
use Rattle.h2_laws_kept.specs.Arriving.{Breaks}
use Rattle.h2_laws_kept.specs.Kept.{Kept}
use Rattle.h2_laws_kept.specs.Rooms.{IsRoomy}
use Rattle.h2_laws_kept.specs.StandsFor.{Holds, IsSound, Lacks}
use Rattle.h2_laws_kept.proofs.Heading.{answered-heads, arrived-heads}
use Rattle.h2_laws_kept.proofs.Holding.{IsOutside, lacks-as, reads-kept}
use Rattle.h2_session.specs.Steps.{IsDecoded, IsOn, IsWhole, whole_with}
use Rattle.h2_session.specs.declared.judging.Whole.{Whole}
use Rattle.h2_session.proofs.Judged.{seen-initial, seen-streams, seen-unreturned}
use Rattle.h2_session.proofs.Opening.{opening-client}
use Rattle.h2_session.proofs.Sounds.{accepted-sound, opening-sound}

-- The block that a frame ends

pub whole-is : (a : Account) (f : Frame) → whole_with (open_block a.log) f ≡ whole_block a.log f
whole-is a (frame.Headers id part last ends) = refl
whole-is a (frame.Continuation id part ends) = refl
whole-is a f = refl

ends-whole : (b : Account) (f : Frame) (o : Option OpenBlock) (w : Option Whole) (t : hpack.TableState) → whole_block b.log f ≡ o
    → IsDecoded (table_after (blocks b.log)) o w t → IsWhole b f w
ends-whole b f None None t e d = e
ends-whole b f (Some o) (Some w) t e d = record {
  bytes = o.bytes;
  whole = e ∙ (λ i. Some (record { stream = sym d.0 i; bytes = o.bytes; last = sym d.1 i }));
  fields = ap (λ x. fields_or_none (decoded_by b.log x)) e ∙ ap (λ x. fields_or_none (Some x)) d.2;
}
ends-whole b f None (Some w) t e d = absurd d
ends-whole b f (Some o) None t e d = absurd d

pub is-whole : (b : Account) (f : Frame) (w : Option Whole) (t : hpack.TableState) → IsDecoded (table_after (blocks b.log)) (whole_block b.log f) w t
    → IsWhole b f w
is-whole b f w t d = ends-whole b f (whole_block b.log f) w t refl d

-- Whether it is a connection error

pub early-breaks : (a : Account) (f : Frame) (code : ℕ) → first_row (early_rows a f) ≡ Some code → violation_of a f ≡ Some code
early-breaks a f code e = violation-parts a f ∙ rw e refl

ends-with : (a : Account) (f : Frame) (o : OpenBlock) → whole_block a.log f ≡ Some o → block_with a.log f ≡ Some o
ends-with a f o e = by (ends_block f) e
  where
    by : (c : Bool) → (if c then block_with a.log f else None) ≡ Some o → block_with a.log f ≡ Some o
    by true e = e
    by false e = absurd cc

pub short-block : (a : Account) (f : Frame) (o : OpenBlock) → whole_block a.log f ≡ Some o → is_long (block_with a.log f) ≡ false
    → nat_lt 65536 (length o.bytes) ≡ false
short-block a f o e l = sym (ap is_long (ends-with a f o e)) ∙ l

pub late-breaks : (a : Account) (f : Frame) (o : OpenBlock) (code : ℕ) → first_row (early_rows a f) ≡ None → whole_block a.log f ≡ Some o
    → code_of (block_of (table_after (blocks a.log)) o.bytes) ≡ Some code → violation_of a f ≡ Some code
late-breaks a f o code n e c = violation-parts a f ∙ rw n (ended-block a f o e ∙ c)

pub passes-all : (a : Account) (f : Frame) (w : Option Whole) (t : hpack.TableState) → first_row (early_rows a f) ≡ None
    → IsDecoded (table_after (blocks a.log)) (whole_block a.log f) w t → violation_of a f ≡ None
passes-all a f w t n d = violation-parts a f ∙ rw n (by (whole_block a.log f) w refl d)
  where
    by : (o : Option OpenBlock) (w : Option Whole) → whole_block a.log f ≡ o → IsDecoded (table_after (blocks a.log)) o w t
        → or_row None (late_rows a f) ≡ None
    by None None e d = no-block a f e
    by (Some o) (Some w) e d = ended-block a f o e ∙ ap code_of d.2
    by None (Some w) e d = absurd d
    by (Some o) None e d = absurd d

as-violated : (a : Account) (f : Frame) (code : ℕ) → violation_of a f ≡ Some code → arrived f a ≡ violated code a
unfolding arrived
as-violated a f code e = ap (λ o. arrived_by o f a) e

pub breaks : (l : Kept) (a : Account) (f : Frame) (code : ℕ) → violation_of a f ≡ Some code → Holds l (violated code a) → Breaks l f a code
breaks l a f code e h = record {
  told = ap (λ b. violation b.log) (as-violated a f code e);
  holds = subst (Holds l) (sym (as-violated a f code e)) h;
}

-- What an accepted frame leaves of the streams

same-both : (a b c : Account) → SameStreams a b → SameStreams b c → SameStreams a c
same-both a b c x y = record { client = y.client ∙ x.client; opened = y.opened ∙ x.opened; heads = λ id. y.heads id ∙ x.heads id }

same-self : (a : Account) → SameStreams a a
same-self a = record { client = refl; opened = refl; heads = λ id. refl }

received-same : (f : Frame) (a : Account) → SameStreams a (noted (Received f) a)
unfolding noted
received-same f a = record { client = refl; opened = refl; heads = λ id. refl }

block-same : (o : Option OpenBlock) (a : Account) → SameStreams a (with_block o a)
unfolding noted
block-same None a = same-self a
block-same (Some b) a = record { client = refl; opened = refl; heads = λ id. refl }

reporting-same : (e : Event) (a : Account) → SameStreams a (reporting e a)
unfolding noted
reporting-same e a = record { client = refl; opened = refl; heads = λ id. refl }

reporting-all-same : (es : List Event) (a : Account) → SameStreams a (reporting_all es a)
reporting-all-same [] a = same-self a
reporting-all-same (e ∷ es) a =
    same-both a (reporting e a) (reporting_all es (reporting e a)) (reporting-same e a) (reporting-all-same es (reporting e a))

owing-all-same : (fs : List Frame) (a : Account) → SameStreams a (owing_all fs a)
owing-all-same [] a = same-self a
owing-all-same (f ∷ fs) a =
    let s = owing-stays f a in
    same-both a (owing f a) (owing_all fs (owing f a)) (record { client = s.client; opened = s.opened; heads = s.heads }) (owing-all-same fs (owing f a))

accepted-same : (f : Frame) (a : Account) → SameStreams a (accepted f a)
unfolding accepted
accepted-same f a =
    let b : Account = noted (Received f) a in
    let c : Account = with_block (whole_block a.log f) b in
    let d : Account = reporting_all (events_of a f) c in
    same-both a b (accepted f a) (received-same f a)
    (same-both b c (accepted f a) (block-same (whole_block a.log f) b)
    (same-both c d (accepted f a) (reporting-all-same (events_of a f) c) (owing-all-same (owed_for a f) d)))

-- What is held then

pub is-on : (k : Kept) (b : Account) → k.state ≡ record (seen b) { table = k.state.table } → k.client ≡ b.client → Lacks k b → IsOn k b
is-on k b e c l = record {
  streams = seen-streams k.state b e;
  unreturned = seen-unreturned k.state b e;
  initial = seen-initial k.state b e;
  client = c;
  headless = λ id. ap (λ o. k.client && nat_le k.headless id && o) (l.known.known id) ∙ sym (l.headless id);
}

module _ (a : Account) (f : Frame) (s : IsSound a) (n : violation a.log ≡ None) (v : violation_of a f ≡ None) where
  abbrev b : Account
  b = with_opening f a

  abbrev c : Account
  c = arrived f a

  sound : arrivals.FramesSound a
  sound = record { valid = s.valid; block = s.block }

  as-accepted : c ≡ accepted f b
  unfolding arrived
  as-accepted = ap (λ o. arrived_by o f a) v

  pub opening-ready : Ready f a b (opening_for (λ id. is_opened id a.log) f (seen a))
  opening-ready = ready f a sound (no-violation a f v)

  pub still-sound : violation c.log ≡ None
  still-sound = ap (λ x. violation x.log) as-accepted ∙ accepted-sound f b ∙ opening-sound f a ∙ n

  streams-same : SameStreams b c
  streams-same = subst (SameStreams b) (sym as-accepted) (accepted-same f b)

  pub arrived-is : seen c ≡ arriving (is_headless b) f (owed_for b f) (events_of b f) (whole_block b.log f) (opening_for (λ id. is_opened id a.log) f (seen a))
  arrived-is = (arrives f a sound v).state

  after-sound : IsSound (answered c)
  after-sound =
      let x = (arrives f a sound v).sound in
      let y = sound-aside c.greeted c.rest (drop 1 c.unreported) c x in
      let i = keeps-arrived f a in
      record {
        valid = answered-valid c x.valid;
        calls = answered-sound c (arrived-sound f a (zero-unopened a s.valid) s.calls);
        block = y.block;
        counted = answered-counted c (arrived-counted f a sound s.counted);
        part = record {
          frame = λ g. ap first i.rest ∙ s.part.frame (sym i.greeted ∙ g);
          preface = λ g. subst (λ r. r ≡ take (length r) preface) (sym i.rest) (s.part.preface (sym i.greeted ∙ g));
          short = λ g. subst (λ r. length r < 24) (sym i.rest) (s.part.short (sym i.greeted ∙ g));
        };
        heads = answered-heads c (arrived-heads f a s.heads);
      }

  -- the parts hold what the account says
  pub holds-after : (k l : Kept) → Holds k a → l.state ≡ record (seen c) { unreported = drop 1 (seen c).unreported } → IsOutside k l
      → l.fault ≡ None → Lacks l b → IsRoomy l → Holds l (answered c)
  holds-after k l h e o d m r = record {
    sound = after-sound;
    state = λ i. record (is i) { table = l.state.table };
    table = λ q. ap (λ (x : State). x.table) is;
    role = o.client ∙ h.role ∙ sym same;
    streams = lacks-as l l b (answered c) refl refl refl streams-same.opened (same-headless b c streams-same) m;
    reads = λ q. reads-kept k l a (answered c) o (record { greeted = (keeps-arrived f a).greeted; rest = (keeps-arrived f a).rest }) (h.reads n);
    decodes = λ q. d;
    encodes = o.entries ∙ h.encodes;
    room = r;
  }
    where
      is : l.state ≡ seen (answered c)
      is = e ∙ sym (answered-seen c)

      same : (answered c).client ≡ a.client
      same = streams-same.client ∙ opening-client f a
