-- What a session holds beside its input: bytes that are read, and events that are answered, change nothing else.
use Rattle.std.proofs.Common.{◌≡◌, ℕ, Bool, List, [], drop, None, sym, ◌∙◌, ap}
use Rattle.h2_model.specs.declared.answers.Event.{Event}
use Rattle.h2_model.specs.Log.{violation}
use Rattle.h2_model.specs.Account.{Account}
use Rattle.h2_model.specs.History.{answered}
use Rattle.h2_model.specs.State.{State, seen}
use Rattle.h2_laws_log.proofs.Arrives.{sound-aside}
use Rattle.h2_laws_log.proofs.Reports.{seen-aside}
use Rattle.h2_laws_log.specs.Feeding.{KeepsPart}
use Rattle.h2_laws_kept.specs.Kept.{Kept}
use Rattle.h2_laws_kept.specs.StandsFor.{IsSound, Lacks, ReadsInput, Holds}

is-sound-aside : (greeted : Bool) (rest : List ℕ) (us : List Event) (a : Account) → IsSound a
    → KeepsPart (record a { greeted = greeted; rest = rest; unreported = us })
    → IsSound (record a { greeted = greeted; rest = rest; unreported = us })
is-sound-aside greeted rest us a s p =
    let h = sound-aside greeted rest us a (record { valid = s.valid; block = s.block }) in
    record {
      valid = h.valid;
      calls = record { left = s.calls.left; holds = s.calls.holds; lost = s.calls.lost };
      block = h.block;
      counted = record {
        ends = s.counted.ends;
        resets = s.counted.resets;
        connection_ends = s.counted.connection_ends;
        connection_resets = s.counted.connection_resets;
      };
      part = p;
      heads = record { held = s.heads.held; opened = s.heads.opened };
    }

seen-beside : (greeted : Bool) (rest : List ℕ) (a : Account) → seen (record a { greeted = greeted; rest = rest }) ≡ seen a
unfolding seen
seen-beside greeted rest a = seen-aside greeted rest a.unreported a

module _ (k : Kept) (a : Account) (h : Holds k a) where
  lacks-aside : (at : ℕ) (reader : List ℕ) (st : State) (greeted : Bool) (rest : List ℕ) (us : List Event)
      → Lacks (record k { greeted = at; reader = reader; state = st }) (record a { greeted = greeted; rest = rest; unreported = us })
  lacks-aside at reader st greeted rest us = record {
    known = record { known = h.streams.known.known; above = h.streams.known.above; last = h.streams.known.last };
    gaps = h.streams.gaps;
    headless = h.streams.headless;
    odd = h.streams.odd;
    within = h.streams.within;
    whole = h.streams.whole;
    count = h.streams.count;
  }

  -- bytes that came in
  pub input-aside : (at : ℕ) (reader : List ℕ) (greeted : Bool) (rest : List ℕ)
      → KeepsPart (record a { greeted = greeted; rest = rest })
      → (violation a.log ≡ None → ReadsInput (record k { greeted = at; reader = reader }) (record a { greeted = greeted; rest = rest }))
      → Holds (record k { greeted = at; reader = reader }) (record a { greeted = greeted; rest = rest })
  input-aside at reader greeted rest p r = record {
    sound = is-sound-aside greeted rest a.unreported a h.sound p;
    state = h.state ∙ ap (λ (s : State). record s { table = k.state.table }) (sym (seen-beside greeted rest a));
    table = λ v. h.table v ∙ ap (λ (s : State). s.table) (sym (seen-beside greeted rest a));
    role = h.role;
    streams = lacks-aside at reader k.state greeted rest a.unreported;
    reads = r;
    decodes = h.decodes;
    encodes = h.encodes;
    room = record {
      queue = h.room.queue;
      held = h.room.held;
      reserve = h.room.reserve;
      held_reserve = h.room.held_reserve;
      table = h.room.table;
    };
  }

  -- an event that was answered
  pub event-aside : (us : List Event) → us ≡ drop 1 a.unreported → Holds (record k { state = record k.state { unreported = us } }) (answered a)
  event-aside us e = record {
    sound = is-sound-aside a.greeted a.rest (drop 1 a.unreported) a h.sound part;
    state = ap {B = State} (λ (s : State). record s { unreported = us }) h.state
        ∙ ap (λ (s : State). record s { table = k.state.table }) told;
    table = λ v. h.table v ∙ ap (λ (s : State). s.table) told;
    role = h.role;
    streams = lacks-aside k.greeted k.reader (record k.state { unreported = us }) a.greeted a.rest (drop 1 a.unreported);
    reads = λ n. let r = h.reads n in record {
      greeted = r.greeted;
      within = r.within;
      preface = r.preface;
      frame = r.frame;
      begun = r.begun;
    };
    decodes = h.decodes;
    encodes = h.encodes;
    room = record {
      queue = h.room.queue;
      held = h.room.held;
      reserve = h.room.reserve;
      held_reserve = h.room.held_reserve;
      table = h.room.table;
    };
  }
    where
      part : KeepsPart (answered a)
      part = record { frame = h.sound.part.frame; preface = h.sound.part.preface; short = h.sound.part.short }

      told : record (seen a) { unreported = us } ≡ seen (answered a)
      told = ap {B = State} (λ (x : List Event). record (seen a) { unreported = x }) e
          ∙ sym (seen-aside a.greeted a.rest (drop 1 a.unreported) a)

-- where nothing is unreported nothing is answered
pub answered-none : (a : Account) → a.unreported ≡ [] → answered a ≡ a
answered-none a e = ap {B = Account} (λ (x : List Event). record a { unreported = x }) (ap (drop 1) e ∙ sym e)
