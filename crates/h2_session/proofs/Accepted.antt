-- A frame that is no connection error, from the block that it ends to what is owed for it: what the session holds is what the
-- account says, and it tells what the account brings.
use Rattle.std.proofs.Common.{◌≡◌, ℕ, List, [], Option, Some, None, length, drop, map, refl, sym, ◌∙◌, ap, subst, arith}
use Rattle.std.proofs.lemmas.Bool.{ltb-false}
use Rattle.hpack_core.specs.Tables as hpack
use Rattle.hpack_core.specs.Reading.{block_of}
use Rattle.h2_frames.specs.declared.frame.Frame.{Frame}
use Rattle.h2_model.specs.declared.answers.Event.{Event}
use Rattle.h2_model.specs.Account.{Account, is_headless}
use Rattle.h2_model.specs.Blocks.{OpenBlock, blocks, open_block, table_after, whole_block}
use Rattle.h2_model.specs.Calls.{event_or_nothing}
use Rattle.h2_model.specs.Codes.{first_row}
use Rattle.h2_model.specs.Duties.{events_of, owed_for}
use Rattle.h2_model.specs.History.{arrived, with_opening}
use Rattle.h2_model.specs.Log.{violation}
use Rattle.h2_model.specs.Moves.{receiving, reported}
use Rattle.h2_model.specs.State.{State, seen, streams}
use Rattle.h2_model.specs.Streams.{is_opened}
use Rattle.h2_laws_log.specs.Steps.{arriving, opening_for, owing_frames}
use Rattle.h2_laws_log.proofs.Arrives.{Ready, no-violation}
use Rattle.h2_streams.specs.Rows.{early_rows}
use Rattle.h2_streams.specs.Rows.{code_of}
use Rattle.h2_laws_kept.specs.Arriving.{Breaks, Brings}
use Rattle.h2_laws_kept.specs.Kept.{IsBeside, IsSame, Kept, lacks_head}
use Rattle.h2_laws_kept.specs.Rooms.{HasSpare, IsRoomy, KeepsCapacity}
use Rattle.h2_laws_kept.specs.StandsFor.{Holds, Lacks}
use Rattle.h2_laws_kept.proofs.Holding.{IsOutside, lacks-as, lacks-kept, state-sound}
use Rattle.h2_laws_kept.proofs.Roominess.{Comes}
use Rattle.h2_session.specs.Accepting.{IsAccepted, IsReady, Settles}
use Rattle.h2_session.specs.Arrivals.{CanOpen, IsUndecoded, KeepsParts, numbers_with}
use Rattle.h2_session.specs.Refused.{refused}
use Rattle.h2_session.specs.Steps.{IsDecoded, IsTold, ending, refused_ids, resetting_all, whole_with}
use Rattle.h2_session.specs.declared.judging.Whole.{Whole}
use Rattle.h2_model.specs.Numbers.{has}
use Rattle.h2_session.proofs.Apart.{opening-begun, opening-keeps, opening-table}
use Rattle.h2_session.proofs.Arrived.{arrived-is, breaks, holds-after, is-on, is-whole, late-breaks, opening-ready, passes-all, short-block, still-sound, whole-is}
use Rattle.h2_session.proofs.Arriving.{arrived-unreported, arrives-as}
use Rattle.h2_session.proofs.Brought.{tells, told-first, told-nothing}
use Rattle.h2_session.proofs.Endings.{faulty-held, roomy-parts}
use Rattle.h2_session.proofs.Fits.{can-count, early-passes, passes, widens-still}
use Rattle.h2_session.proofs.Judged.{seen-block as seen-begun, seen-streams, seen-unreturned, seen-window}
use Rattle.h2_session.proofs.Opening.{can-open, opening-client, opening-lacks}
use Rattle.h2_session.proofs.Roomy.{arriving-comes, capacity-then, roomy-after}
use Rattle.h2_session.proofs.Seen.{seen-block, seen-table, seen-unreported}

-- A block that can't be decoded

pub undecoded-breaks : (k l : Kept) (a : Account) (f : Frame) → Holds k a → violation a.log ≡ None → first_row (early_rows a f) ≡ None
    → (code : ℕ) → IsUndecoded code (whole_with k.state.block f) k l → Breaks l f a code
undecoded-breaks k l a f h n e code u = by (whole_with k.state.block f) refl u
  where
    table : k.state.table ≡ table_after (blocks a.log)
    table = h.table n ∙ seen-table a

    whole : whole_with k.state.block f ≡ whole_block a.log f
    whole = ap (λ o. whole_with o f) (seen-begun k.state a h.state) ∙ whole-is a f

    by : (o : Option OpenBlock) → whole_with k.state.block f ≡ o → IsUndecoded code o k l → Breaks l f a code
    by None q u = absurd u
    by (Some o) q u =
        let ends : whole_block a.log f ≡ Some o = sym whole ∙ q in
        let short = ltb-false 65536 (length o.bytes) (short-block a f o ends (passes a f e).short) in
        breaks l a f code
        (late-breaks a f o code e ends (ap (λ t. code_of (block_of t o.bytes)) (sym table) ∙ u.told short))
        (faulty-held k u.after l a code h n u.kept u.fails)

-- and one that can

pub accepted : (k l : Kept) (a : Account) (f : Frame) (w : Option Whole) → Holds k a → violation a.log ≡ None → a.unreported ≡ []
    → first_row (early_rows a f) ≡ None → KeepsParts k l → IsDecoded k.state.table (whole_with k.state.block f) w l.state.table → l.fault ≡ None
    → IsAccepted l f w a
accepted k l a f w h n q e p d u = record {
  before = k;
  holds = h;
  sound = n;
  quiet = q;
  passes = passes-all a f w l.state.table e (subst (λ t. IsDecoded t (whole_block a.log f) w l.state.table) (h.table n ∙ seen-table a) decoded);
  kept = p;
  decoded = decoded;
  fault = u;
}
  where
    decoded : IsDecoded k.state.table (whole_block a.log f) w l.state.table
    decoded = subst (λ o. IsDecoded k.state.table o w l.state.table)
        (ap (λ o. whole_with o f) (seen-begun k.state a h.state) ∙ whole-is a f) d

module _ (k : Kept) (f : Frame) (w : Option Whole) (a : Account) (p : IsAccepted k f w a) where
  abbrev before : Kept
  before = p.before

  abbrev b : Account
  b = with_opening f a

  abbrev opening : State → State
  opening = opening_for (λ id. is_opened id a.log) f

  was : before.state ≡ seen a
  was = state-sound before a p.holds p.sound

  seen-still : k.state ≡ record (seen a) { table = k.state.table }
  seen-still = p.kept.state ∙ ap (λ (x : State). record x { table = k.state.table }) was

  role : k.client ≡ a.client
  role = p.kept.client ∙ p.holds.role

  lacks : Lacks k a
  lacks = lacks-as before k a a p.kept.client p.kept.numbers p.kept.headless refl (λ id. refl) p.holds.streams

  pub may-open : CanOpen f k
  may-open = can-open k a f seen-still role lacks (no-violation a f p.passes)

  ready : Ready f a b (opening (seen a))
  ready = opening-ready a f p.holds.sound p.sound p.passes

  same-table : table_after (blocks b.log) ≡ table_after (blocks a.log)
  same-table = sym (seen-table b) ∙ ap (λ (x : State). x.table) ready.state ∙ opening-keeps (λ id. is_opened id a.log) f (seen a) ∙ seen-table a

  same-whole : whole_block b.log f ≡ whole_block a.log f
  same-whole = sym (whole-is b f) ∙ ap (λ o. whole_with o f) same-block ∙ whole-is a f
    where
      same-block : open_block b.log ≡ open_block a.log
      same-block = sym (seen-block b) ∙ ap (λ (x : State). x.block) ready.state ∙ opening-begun (λ id. is_opened id a.log) f (seen a) ∙ seen-block a

  decoded : IsDecoded (table_after (blocks b.log)) (whole_block b.log f) w k.state.table
  decoded = subst (λ t. IsDecoded t (whole_block b.log f) w k.state.table) (ap (λ (x : State). x.table) was ∙ seen-table a ∙ sym same-table)
      (subst (λ o. IsDecoded before.state.table o w k.state.table) (sym same-whole) p.decoded)

  -- once the stream is opened, with room for what comes
  module _ (k1 m : Kept) (s1 : k1.state ≡ opening_for (λ id. has id k.numbers) f k.state) (n1 : k1.numbers ≡ numbers_with f k.numbers)
      (o1 : IsBeside k k1) (h1 : k1.headless ≡ k.headless) (c1 : KeepsCapacity k k1)
      (s2 : m.state ≡ k1.state) (o2 : IsSame k1 m) (c2 : KeepsCapacity k1 m) (r2 : HasSpare 3 m) where
    opened-as : m.state ≡ opening (record (seen a) { table = k.state.table })
    opened-as = s2 ∙ s1 ∙ (λ i. opening_for (λ id. lacks.known.known id i) f (seen-still i))

    seen-opened : m.state ≡ record (seen b) { table = k.state.table }
    seen-opened = opened-as ∙ opening-table (λ id. is_opened id a.log) f k.state.table (seen a)
        ∙ ap (λ (x : State). record x { table = k.state.table }) (sym ready.state)

    seen-on : m.state ≡ record (seen b) { table = m.state.table }
    seen-on = seen-opened ∙ ap (λ (t : hpack.TableState). record (seen b) { table = t }) (sym (ap (λ (x : State). x.table) seen-opened))

    client : m.client ≡ b.client
    client = o2.client ∙ o1.client ∙ role ∙ sym (opening-client f a)

    lacks-on : Lacks m b
    lacks-on = opening-lacks k m a f role lacks may-open (o2.client ∙ o1.client) (o2.numbers ∙ n1) (o2.headless ∙ h1)

    pub is-ready : IsReady m f w b
    is-ready = record {
      on = is-on m b seen-on client lacks-on;
      whole = is-whole b f w k.state.table decoded;
      counts = can-count m.state b f ready.valid ready.within (seen-streams m.state b seen-on) (seen-unreturned m.state b seen-on);
      window = seen-window m.state b seen-on;
      widens = widens-still a f ∙ (passes a f (early-passes a f p.passes)).widens;
    }

    -- and once all is done
    module _ (l : Kept) (e : Event) (s : Settles m l f w e b) (o3 : IsSame m l) (c3 : KeepsCapacity m l) where
      abbrev ids : List ℕ
      ids = refused_ids b.client f (streams b)

      told : IsTold e ids (events_of b f)
      told = subst (λ x. IsTold x ids (events_of b f)) (sym s.event) (tells b f w is-ready.whole)

      quiet : (seen a).unreported ≡ []
      quiet = seen-unreported a ∙ p.quiet

      decoded-from : IsDecoded (seen a).table (whole_block b.log f) w k.state.table
      decoded-from = subst (λ t. IsDecoded t (whole_block b.log f) w k.state.table) (same-table ∙ sym (seen-table a)) decoded

      same-ids : refused_ids m.client f m.state.streams ≡ ids
      same-ids = λ i. refused_ids (client i) f (seen-streams m.state b seen-on i)

      is : seen (arrived f a) ≡ arriving (is_headless b) f (owed_for b f) (events_of b f) (whole_block b.log f) (opening (seen a))
      is = arrived-is a f p.holds.sound p.sound p.passes

      state : l.state ≡ record (seen (arrived f a)) { unreported = drop 1 (seen (arrived f a)).unreported }
      state =
          s.state
          ∙ (λ i. owing_frames (λ id. is-ready.on.headless id i) (owed_for b f)
          (record (resetting_all (same-ids i) (reported e (ending w (receiving f (opened-as i))))) { unreported = map refused (same-ids i) }))
          ∙ arrives-as (λ id. is_opened id a.log) (is_headless b) f (owed_for b f) (events_of b f) (whole_block b.log f) w k.state.table e ids (seen a)
          quiet decoded-from told
          ∙ (λ i. record (sym is i) { unreported = drop 1 (sym is i).unreported })

      around : IsOutside before l
      around = record {
        client = o3.client ∙ o2.client ∙ o1.client ∙ p.kept.client;
        streams = o3.streams ∙ o2.streams ∙ o1.streams ∙ p.kept.streams;
        greeted = o3.greeted ∙ o2.greeted ∙ o1.greeted ∙ p.kept.greeted;
        reader = o3.reader ∙ o2.reader ∙ o1.reader ∙ p.kept.reader;
        entries = o3.entries ∙ o2.entries ∙ o1.entries ∙ p.kept.entries;
      }

      roomy : IsRoomy l
      roomy = roomy-after 3 k m l (roomy-parts before k p.kept p.holds.room) (capacity-then k k1 m c1 c2)
          (record { client = o2.client ∙ o1.client; streams = o2.streams ∙ o1.streams }) r2 c3 (record { client = o3.client; streams = o3.streams }) comes
        where
          comes : Comes 3 m.state l.state
          comes = subst (Comes 3 m.state) (sym s.state)
              (arriving-comes 3 (λ id. lacks_head id m) f w e (refused_ids m.client f m.state.streams)
              (map refused (refused_ids m.client f m.state.streams)) (owed_for b f) m.state (omega (arith, s.few)))

      unreported : (arrived f a).unreported ≡ events_of b f
      unreported =
          sym (seen-unreported (arrived f a)) ∙ ap (λ (x : State). x.unreported) is
          ∙ arrived-unreported (λ id. is_opened id a.log) (is_headless b) f (owed_for b f) (events_of b f) (whole_block b.log f) w k.state.table e ids (seen a)
          quiet decoded-from told

      pub brings : Brings l f a e
      brings = record {
        sound = still-sound a f p.holds.sound p.sound p.passes;
        told = told-first e ids (events_of b f) told ∙ sym (ap event_or_nothing unreported);
        quiet = λ z. unreported ∙ told-nothing e ids (events_of b f) told z;
        holds = holds-after a f p.holds.sound p.sound p.passes before l p.holds state around
            (o3.fault ∙ o2.fault ∙ o1.fault ∙ p.fault)
            (lacks-kept m l b b o3 refl (λ id. refl) lacks-on) roomy;
      }
