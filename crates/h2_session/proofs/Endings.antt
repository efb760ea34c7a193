-- Connection errors, against what the account says of them.
use Rattle.std.proofs.Common.{◌≡◌, ℕ, ◌+◌, not, List, [], ◌∷◌, ◌++◌, length, None, refl, sym, ◌∙◌, ap, if◌then◌else◌, filter, arith, le_refl}
use Rattle.std.proofs.lemmas.List.{length-append}
use Rattle.h2_model.specs.Log.{violation}
use Rattle.h2_model.specs.Streams.{opened}
use Rattle.h2_frames.specs.declared.frame.Frame.TheVariants as frame
use Rattle.h2_model.specs.declared.answers.SessionFault.{SessionFault}
use Rattle.h2_model.specs.declared.answers.SessionFault.TheVariants.{Code, Memory}
use Rattle.h2_model.specs.Queue.{Waiting, fresh, is_free_content}
use Rattle.h2_model.specs.Account.{Account, is_headless}
use Rattle.h2_model.specs.History as history
use Rattle.h2_model.specs.History.{violated}
use Rattle.h2_model.specs.State.{State, seen}
use Rattle.h2_laws_log.specs.Becomes.{Becomes}
use Rattle.h2_laws_log.specs.Calling.{failing}
use Rattle.h2_laws_log.proofs.Fail.{fail-seen, fail-valid, fail-sound}
use Rattle.h2_laws_log.proofs.RoomCalls.{violated-counted}
use Rattle.h2_model.specs.Numbers.{last_of}
use Rattle.h2_laws_kept.specs.Arriving.{IfCode}
use Rattle.h2_laws_kept.specs.Kept.{Kept, IsSame}
use Rattle.h2_laws_kept.specs.Rooms.{IsRoomy, KeepsCapacity, HasSpare}
use Rattle.h2_laws_kept.specs.StandsFor.{Holds, Lacks}
use Rattle.h2_laws_kept.proofs.Heading.{violated-heads}
use Rattle.h2_laws_kept.proofs.Holding.{IsOutside, Leaves, holding-on, lacks-as, lacks-kept}
use Rattle.h2_laws_kept.proofs.Roominess.{Comes, roomy-kept, spare-roomy}
use Rattle.h2_laws_kept.proofs.Sums.{length-filtered}
use Rattle.h2_session.specs.Arrivals.{Fails, KeepsParts, last_of_peer}
use Rattle.h2_session.specs.Keeping.{KeepsRooms}

-- What is said of the code alone
pub if-code : {P Q : ℕ → Type 0} → ((code : ℕ) → P code → Q code) → (e : SessionFault) → IfCode P e → IfCode Q e
if-code m (Code code) p = m code p
if-code m Memory p = tt

-- What a session keeps

pub same-twice : (k m l : Kept) → IsSame k m → IsSame m l → IsSame k l
same-twice k m l s t = record {
  client = t.client ∙ s.client;
  streams = t.streams ∙ s.streams;
  greeted = t.greeted ∙ s.greeted;
  reader = t.reader ∙ s.reader;
  numbers = t.numbers ∙ s.numbers;
  headless = t.headless ∙ s.headless;
  fault = t.fault ∙ s.fault;
  entries = t.entries ∙ s.entries;
}

-- GOAWAY comes, and nothing else
goaway-comes : (k l : Kept) (code : ℕ) → l.state ≡ failing (last_of_peer k) code k.state → Comes 1 k.state l.state
unfolding failing
goaway-comes k l code e = rw e (record {
  queued = omega (arith, length-filtered (λ w. not (is_free_content w)) k.state.waiting, longer (filter (λ w. not (is_free_content w)) k.state.waiting) (fresh (frame.GoAway (last_of_peer k) code)));
  kept = omega arith;
  streams = le_refl (length k.state.streams);
})
  where
    longer : (queue : List Waiting) (w : Waiting) → length (queue ++ w ∷ []) ≡ length queue + 1
    longer queue w = length-append queue (w ∷ [])

pub fails : (k m l : Kept) (code : ℕ) → m.state ≡ k.state → IsSame k m → KeepsRooms k m → HasSpare 1 m
    → l.state ≡ failing (last_of_peer m) code m.state → IsSame m l → KeepsCapacity m l → Fails code k l
fails k m l code e s r h f t c = record {
  state = f ∙ (λ i. failing (if s.client i then 0 else last_of (s.numbers i)) code (e i));
  same = same-twice k m l s t;
  room = λ y. spare-roomy 1 m l (roomy-kept k m y e s.client s.streams r.queue r.held r.table) (goaway-comes m l code f) h t.client t.streams c;
}

-- The account

becomes : (k : Kept) (a : Account) (code : ℕ) → Holds k a → violation a.log ≡ None
    → Becomes (violated code a) (opened a.log) (is_headless a) (failing (history.last_of_peer a) code (seen a))
becomes k a code h n = record {
  state = fail-seen code a h.sound.valid h.sound.calls n;
  valid = fail-valid code a h.sound.valid h.sound.calls n;
  sound = fail-sound code a h.sound.calls;
  numbers = refl;
  headless = λ id. refl;
}

violated-leaves : (k : Kept) (a : Account) (code : ℕ) → Holds k a → Leaves a (violated code a)
violated-leaves k a code h = record {
  client = refl;
  input = record { greeted = refl; rest = refl };
  part = record { frame = h.sound.part.frame; preface = h.sound.part.preface; short = h.sound.part.short };
  counted = violated-counted code a h.sound.counted;
  heads = violated-heads code a h.sound.heads;
  block = refl;
  sound = λ n. absurd cc;
}

-- The decoder may have failed before

lacks-parts : (k m : Kept) (a : Account) → KeepsParts k m → Lacks k a → Lacks m a
lacks-parts k m a p = lacks-as k m a a p.client p.numbers p.headless refl (λ id. refl)

pub roomy-parts : (k m : Kept) → KeepsParts k m → IsRoomy k → IsRoomy m
roomy-parts k m p r = record {
  queue = rw (streams, p.room) r.queue;
  held = λ d. rw (streams, p.held_room) (r.held (sym p.client ∙ d));
  reserve = λ d. rw (p.streams, p.room, waiting) (r.reserve (sym p.client ∙ d));
  held_reserve = λ d. rw (p.streams, p.held_room, held) (r.held_reserve (sym p.client ∙ d));
  table = λ d. rw (p.streams, streams, p.table_room) (r.table (sym p.client ∙ d));
}
  where
    streams : m.state.streams ≡ k.state.streams
    streams = ap (λ (s : State). s.streams) p.state

    waiting : m.state.waiting ≡ k.state.waiting
    waiting = ap (λ (s : State). s.waiting) p.state

    held : m.state.held ≡ k.state.held
    held = ap (λ (s : State). s.held) p.state

same-last : (k m : Kept) (a : Account) → KeepsParts k m → Holds k a → last_of_peer m ≡ history.last_of_peer a
same-last k m a p h = λ i. if (p.client ∙ h.role) i then 0 else (ap last_of p.numbers ∙ h.streams.known.last) i

-- the decoder's table stays
failing-table : (last code : ℕ) (s t : State) → s ≡ record t { table = s.table }
    → failing last code s ≡ record (failing last code t) { table = (failing last code s).table }
unfolding failing
failing-table last code s t e = ap (failing last code) e

pub faulty-held : (k m l : Kept) (a : Account) (code : ℕ) → Holds k a → violation a.log ≡ None → KeepsParts k m → Fails code m l
    → Holds l (violated code a)
faulty-held k m l a code h n p f =
    holding-on k l a (violated code a) (opened a.log) (is_headless a) (failing (history.last_of_peer a) code (seen a)) h
    (becomes k a code h n) held (λ q. absurd cc) (λ q. absurd cc) around (violated-leaves k a code h) h.sound.block
    (lacks-kept m l a (violated code a) f.same refl (λ id. refl) (lacks-parts k m a p h.streams)) (f.room (roomy-parts k m p h.room))
  where
    seen-still : m.state ≡ record (seen a) { table = m.state.table }
    seen-still = p.state ∙ ap (λ (x : State). record x { table = m.state.table }) h.state

    held : l.state ≡ record (failing (history.last_of_peer a) code (seen a)) { table = l.state.table }
    held = f.state ∙ failing-table (last_of_peer m) code m.state (seen a) seen-still
        ∙ (λ i. record (failing (same-last k m a p h i) code (seen a)) { table = (sym f.state i).table })

    around : IsOutside k l
    around = record {
      client = f.same.client ∙ p.client;
      streams = f.same.streams ∙ p.streams;
      greeted = f.same.greeted ∙ p.greeted;
      reader = f.same.reader ∙ p.reader;
      entries = f.same.entries ∙ p.entries;
    }

parts-stay : (k : Kept) → KeepsParts k k
parts-stay k = record {
  state = refl;
  client = refl;
  streams = refl;
  greeted = refl;
  reader = refl;
  numbers = refl;
  headless = refl;
  entries = refl;
  room = refl;
  held_room = refl;
  table_room = refl;
}

pub fails-held : (k l : Kept) (a : Account) (code : ℕ) → Holds k a → violation a.log ≡ None → Fails code k l → Holds l (violated code a)
fails-held k l a code h n f = faulty-held k k l a code h n (parts-stay k) f
