-- What each call of a session hands over on a stream, and what the session owes of its own.
use Rattle.std.proofs.Common.{sym, ◌∙◌, ap, subst, inl, inr, append-nil}
use Rattle.std.specs.Prelude.{ℕ, ◌≡◌, ◌<◌, Bool, true, false, not, ◌&&◌, ◌||◌, ◌==◌, List, [], ◌∷◌, ◌++◌, length, filter, refl, if◌then◌else◌}
use Rattle.std.proofs.lemmas.Bool.{eqb-true, eq-eqb}
use Rattle.h2_frames.specs.declared.frame.Frame.{Frame}
use Rattle.h2_frames.specs.declared.frame.Frame.TheVariants as frame
use Rattle.h2_model.specs.declared.answers.Event.TheVariants as event
use Rattle.h2_model.specs.Account.{Account, is_headless}
use Rattle.h2_model.specs.History.{hold, is_violated, noted, owing, queue_with}
use Rattle.h2_model.specs.Log.{LogEntry, Log, Handed, Owed, Reported, stream_of}
use Rattle.h2_model.specs.Queue.{Waiting, entered, is_reset_frame}
use Rattle.h2_model.specs.Streams.{has_head, is_ended_here, is_opened, is_reset}
use Rattle.h2_laws_log.proofs.Lists.{not-zero}
use Rattle.hub_model.specs.Sending.{all_handed}
use Rattle.hub_laws.specs.Outgoing.{Said, is_sent_on}
use Rattle.hub_laws.proofs.Courses.{clash, has_reset}
use Rattle.hub_laws.proofs.Queues.{any-filter, is_begun, is_spent, tail-filter}
use Rattle.hub_laws.proofs.Resets.{begun-enters, spent-enters}
use Rattle.hub_laws.proofs.Held.{Stream}
use Rattle.hub_laws.proofs.Enters.{content-more, finish-more, hold-more, reset-more}
use Rattle.hub_laws.proofs.Steps.{Core, Silent, enters-apart, entry-core, entry-on, gone, hold-apart, holds, keeps, values, with_entry}
use Rattle.hub_laws.proofs.Ordered.{Adds, Hands, IsOrdered, OnStream, Ordered, begun-any, entering, gone-same, headless-is, other-on, own-queued}

same : (id : ℕ) → (id == id) ≡ true
same id = eq-eqb id id refl

data-silent : (n j : ℕ) (bytes : List ℕ) (last : Bool) (size : ℕ) (log : Log) → (n == j) ≡ false → Silent j (Handed (frame.Data n bytes last size)) log
data-silent n j bytes last size log e = record {
  handed = ap (λ (b : Bool). all_handed j log ++ (if b then bytes else [])) e ∙ append-nil (all_handed j log);
  ended = ap (λ b. (b && last) || is_ended_here j log) e;
  sound = refl;
  head = refl;
  given = gone-same j (Handed (frame.Data n bytes last size)) log refl;
}

pub sends : (id b : ℕ) (bytes : List ℕ) (a : Account) → 0 < id → a.client ≡ true → is_opened id a.log ≡ true → is_reset id a.log ≡ false
    → is_ended_here id a.log ≡ false → is_violated a ≡ false → Hands (frame.Data id (b ∷ bytes) false (length (b ∷ bytes))) a
sends id b bytes a p c o r e v = record {
  client = c;
  there = p;
  opened = o;
  other = λ j n. data-silent id j (b ∷ bytes) false (length (b ∷ bytes)) a.log n;
  head = refl;
  own = λ body clean. record {
    sent = same id;
    stream = refl;
    more = λ g. content-more (with_entry id (Handed f) a.log) (values id (Handed f ∷ a.log)) body f refl r e v
        (ap (λ (x : Bool). all_handed id a.log ++ (if x then b ∷ bytes else [])) (same id)) (λ g x. x) (inl (inl refl)) g;
    reset = λ x. absurd (clash (is_reset id a.log) x r);
    kind = inl (refl, r);
    known = λ g x. x;
  };
  live = r;
}
  where
    f : Frame
    f = frame.Data id (b ∷ bytes) false (length (b ∷ bytes))

pub finishes : (id : ℕ) (a : Account) → 0 < id → a.client ≡ true → is_opened id a.log ≡ true → is_reset id a.log ≡ false
    → is_ended_here id a.log ≡ false → Hands (frame.Data id [] true 0) a
finishes id a p c o r e = record {
  client = c;
  there = p;
  opened = o;
  other = λ j n. data-silent id j [] true 0 a.log n;
  head = refl;
  own = λ body clean. record {
    sent = same id;
    stream = refl;
    more = λ g. finish-more (with_entry id (Handed f) a.log) (values id (Handed f ∷ a.log)) body f refl r e
        (ap (λ x. (x && true) || is_ended_here id a.log) (same id)) (λ x. x)
        (ap (λ (x : Bool). all_handed id a.log ++ (if x then [] else [])) (same id) ∙ append-nil (all_handed id a.log)) (λ g x. x) (inl (inl refl)) g;
    reset = λ x. absurd (clash (is_reset id a.log) x r);
    kind = inl (refl, r);
    known = λ g x. x;
  };
  live = r;
}
  where
    f : Frame
    f = frame.Data id [] true 0

pub resets : (id code : ℕ) (a : Account) → 0 < id → a.client ≡ true → is_opened id a.log ≡ true → is_reset id a.log ≡ false → Hands (frame.Reset id code) a
resets id code a p c o r = record {
  client = c;
  there = p;
  opened = o;
  other = λ j n. record { handed = append-nil (all_handed j a.log); ended = refl; sound = refl; head = refl; given = gone-same j (Handed f) a.log refl };
  head = refl;
  own = λ body clean. record {
    sent = same id;
    stream = refl;
    more = λ g. reset-more (with_entry id (Handed f) a.log) (values id (Handed f ∷ a.log)) body f refl (clean r) now refl
        (append-nil (all_handed id a.log)) (λ g x. x) (inl (inl refl)) g;
    reset = λ x. (x, refl);
    kind = inr (refl, now, clean r);
    known = λ g x. x;
  };
  live = r;
}
  where
    f : Frame
    f = frame.Reset id code

    now : is_reset id (Handed f ∷ a.log) ≡ true
    now = ap (λ x. x || is_reset id a.log) (same id)

-- What is owed

-- a frame of no stream's course
pub owes-apart : (m : ℕ) (f : Frame) (a : Account) → ((id : ℕ) → 0 < id → is_sent_on id f ≡ false) → is_reset_frame f ≡ false → IsOrdered m a
    → IsOrdered m (owing f a)
unfolding owing noted
owes-apart m f a n r o = by (is_headless a (stream_of f))
  where
    log : Log
    log = Owed f ∷ a.log

    waits : List Waiting
    waits = filter (keeps log) a.waiting

    held : List LogEntry
    held = filter (holds log) a.held

    silent : (id : ℕ) → Silent id (Owed f) a.log
    silent id = record { handed = refl; ended = refl; sound = refl; head = refl; given = gone-same id (Owed f) a.log refl }

    by : (b : Bool) → IsOrdered m (if b then hold (Owed f) a else queue_with f (record a { log = log; waiting = waits; held = held }))
    by true = record {
      spent = o.spent;
      begun = o.begun;
      on = λ id p. let s = o.on id p in record {
        body = s.body;
        stream = hold-apart id (values id a.log) (has_head id a.log) (gone id a.log) a.waiting a.held s.body (Owed f) (n id p) s.stream;
        clean = s.clean;
      };
    }
    by false = record {
      spent = spent-enters f waits (any-filter is_spent (keeps log) a.waiting o.spent);
      begun = begun-enters f waits r (tail-filter is_begun (keeps log) a.waiting o.begun);
      on = λ id p.
          let s = o.on id p in
          let k = entry-on id (Owed f) a.log a.waiting a.held s.body o.begun (silent id) s.stream in
          record {
            body = k.body;
            stream = enters-apart id (values id log) (has_head id log) (gone id log) waits held k.body f (n id p) k.new;
            clean = λ x. k.resets ∙ s.clean x;
          };
    }

-- the reset of a stream whose fault was told
pub owes-reset : (id code : ℕ) (a : Account) → 0 < id → a.client ≡ true → is_opened id a.log ≡ true → is_reset id a.log ≡ true
    → Said (Reported (event.Reset id code)) a.log → IsOrdered id a → IsOrdered 0 (owing (frame.Reset id code) a)
unfolding owing noted
owes-reset id code a p c o r told s = by (has_head id a.log) refl
  where
    f : Frame
    f = frame.Reset id code

    log : Log
    log = Owed f ∷ a.log

    waits : List Waiting
    waits = filter (keeps log) a.waiting

    held : List LogEntry
    held = filter (holds log) a.held

    own : OnStream id id a.log a.waiting a.held
    own = s.on id p

    now : is_reset id log ≡ true
    now = ap (λ x. x || is_reset id a.log) (same id)

    silent : (j : ℕ) → Silent j (Owed f) a.log
    silent j = record { handed = refl; ended = refl; sound = refl; head = refl; given = gone-same j (Owed f) a.log refl }

    none : (j : ℕ) → 0 < j → (j == 0) ≡ true → (P : Type 0) → P
    none j q e P = absurd (clash (j == 0) e (not-zero j q))

    clean : has_reset own.body ≡ false
    clean = own.clean (same id)

    held-case : has_head id a.log ≡ false → Ordered 0 a.log a.waiting (a.held ++ Owed f ∷ [])
    held-case e = record { spent = s.spent; begun = s.begun; on = λ j q. each j q (id == j) refl }
      where
        each : (j : ℕ) → 0 < j → (b : Bool) → (id == j) ≡ b → OnStream 0 j a.log a.waiting (a.held ++ Owed f ∷ [])
        each j q false x =
            let t = s.on j q in
            record {
              body = t.body;
              stream = hold-apart j (values j a.log) (has_head j a.log) (gone j a.log) a.waiting a.held t.body (Owed f) (other-on j f x) t.stream;
              clean = λ y. none j q y (has_reset t.body ≡ false);
            }
        each j q true x = subst (λ m. OnStream 0 m a.log a.waiting (a.held ++ Owed f ∷ [])) (eqb-true id j x)
            (let t : Stream id (values id a.log) false (gone id a.log) a.waiting a.held own.body =
            subst (λ b. Stream id (values id a.log) b (gone id a.log) a.waiting a.held own.body) e own.stream in
            record {
              body = own.body ++ f ∷ [];
              stream = subst (λ b. Stream id (values id a.log) b (gone id a.log) a.waiting (a.held ++ Owed f ∷ []) (own.body ++ f ∷ [])) (sym e)
                  (hold-more id (values id a.log) (values id a.log) (gone id a.log) a.waiting a.held own.body (Owed f) t (same id) (λ y. (y, refl))
                  (reset-more (values id a.log) (values id a.log) own.body f refl clean r refl refl (λ g y. y) (inr told) t.good));
              clean = λ y. none id p y (has_reset (own.body ++ f ∷ []) ≡ false);
            })

    core : Core id (Owed f) a.log (has_head id a.log) (gone id a.log) a.waiting a.held own.body
    core = entry-core id (Owed f) a.log (has_head id a.log) (gone id a.log) a.waiting a.held own.body s.begun own.stream

    adds : Adds f id (with_entry id (Owed f) a.log) (values id log) core.body
    adds = record {
      sent = same id;
      stream = refl;
      more = λ g. reset-more (with_entry id (Owed f) a.log) (values id log) core.body f refl (core.resets ∙ clean) now refl refl (λ h x. x) (inr (inr told)) g;
      reset = λ x. (x, refl);
      kind = inr (refl, now, core.resets ∙ clean);
      known = λ g x. x;
    }

    queued-case : has_head id a.log ≡ true → Ordered 0 log (entered f waits) held
    queued-case e = record {
      spent = spent-enters f waits (any-filter is_spent (keeps log) a.waiting s.spent);
      begun = begun-any f waits (λ y. entering f id (with_entry id (Owed f) a.log) (values id log) (gone id a.log) waits held core.body t adds y)
          (tail-filter is_begun (keeps log) a.waiting s.begun);
      on = λ j q. each j q (id == j) refl;
    }
      where
        t : Stream id (with_entry id (Owed f) a.log) true (gone id a.log) waits held core.body
        t = subst (λ b. Stream id (with_entry id (Owed f) a.log) b (gone id a.log) waits held core.body) e core.new

        each : (j : ℕ) → 0 < j → (b : Bool) → (id == j) ≡ b → OnStream 0 j log (entered f waits) held
        each j q false x =
            let m = entry-on j (Owed f) a.log a.waiting a.held (s.on j q).body s.begun (silent j) (s.on j q).stream in
            record {
              body = m.body;
              stream = enters-apart j (values j log) (has_head j log) (gone j log) waits held m.body f (other-on j f x) m.new;
              clean = λ y. none j q y (has_reset m.body ≡ false);
            }
        each j q true x = subst (λ m. OnStream 0 m log (entered f waits) held) (eqb-true id j x)
            (record {
              body = core.body ++ f ∷ [];
              stream = subst (λ b. Stream id (values id log) b (gone id log) (entered f waits) held (core.body ++ f ∷ [])) (sym e)
                  (subst (λ g. Stream id (values id log) true g (entered f waits) held (core.body ++ f ∷ [])) (sym (gone-same id (Owed f) a.log refl))
                  (own-queued f id (with_entry id (Owed f) a.log) (values id log) (gone id a.log) waits held core.body p t adds));
              clean = λ y. none id p y (has_reset (core.body ++ f ∷ []) ≡ false);
            })

    pick : (b : Bool) → is_headless a id ≡ b → (b ≡ true → Ordered 0 a.log a.waiting (a.held ++ Owed f ∷ [])) → (b ≡ false → Ordered 0 log (entered f waits) held)
        → IsOrdered 0 (if is_headless a id then hold (Owed f) a else queue_with f (record a { log = log; waiting = waits; held = held }))
    pick true e x y = subst (λ b. IsOrdered 0 (if b then hold (Owed f) a else queue_with f (record a { log = log; waiting = waits; held = held }))) (sym e) (x refl)
    pick false e x y = subst (λ b. IsOrdered 0 (if b then hold (Owed f) a else queue_with f (record a { log = log; waiting = waits; held = held }))) (sym e) (y refl)

    by : (b : Bool) → has_head id a.log ≡ b → IsOrdered 0 (if is_headless a id then hold (Owed f) a else queue_with f (record a { log = log; waiting = waits; held = held }))
    by true e = pick false (headless-is a id c o ∙ ap not e) (λ x. absurd (clash false x refl)) (λ x. queued-case e)
    by false e = pick true (headless-is a id c o ∙ ap not e) (λ x. held-case e) (λ x. absurd (clash true refl x))
