-- A head goes out, and behind it what was held for its stream.
use Rattle.std.proofs.Common.{sym, ◌∙◌, ap, subst, inl, append-nil, append_assoc}
use Rattle.std.specs.Prelude.{ℕ, ◌≡◌, ◌<◌, Bool, true, false, not, ◌&&◌, ◌||◌, ◌==◌, List, [], ◌∷◌, ◌++◌, drop, filter, cond, refl, if◌then◌else◌}
use Rattle.std.specs.List.{list_any}
use Rattle.std.proofs.lemmas.Bool.{eqb-true, eq-eqb}
use Rattle.std.proofs.lemmas.List.Folds.{list_any-append}
use Rattle.h2_frames.specs.declared.frame.Frame.{Frame}
use Rattle.h2_frames.specs.declared.frame.Frame.TheVariants as frame
use Rattle.h2_model.specs.Calls.{is_window}
use Rattle.h2_model.specs.Account.{Account}
use Rattle.h2_model.specs.History.{frame_in, headed, is_of, noted, queue_with, released}
use Rattle.h2_model.specs.Log.{LogEntry, Log, Opened, Received, Block, Violated, Handed, Owed, Given, Reported, stream_of}
use Rattle.h2_model.specs.Queue.{Waiting, entered, fresh, has_bytes, is_block, is_free, is_reset_frame, placed, with_end_placed}
use Rattle.h2_model.specs.Streams.{has_head, is_ended_here, is_reset, resets}
use Rattle.h2_laws_log.proofs.Lists.{not-zero}
use Rattle.hub_model.specs.Sending.{all_handed}
use Rattle.hub_laws.specs.Outgoing.{Known, is_body, is_sent_on}
use Rattle.hub_laws.proofs.Courses.{both, clash, has_reset, is_bare, neither}
use Rattle.hub_laws.proofs.Queues.{Cut, any-filter, any-tail, behind-last, is_begun, is_fixed_on, is_spent, on, on-cut, on-whole, placed-apart, placed-last, sent-stream, tail-filter, turn-behind}
use Rattle.hub_laws.proofs.Resets.{MayEnter, begun-enters, fixed-enters, spent-enters}
use Rattle.hub_laws.proofs.Held.{Body, Stream, body-more, held-whole, held_on, nothing}
use Rattle.hub_laws.proofs.Enters.{Moving, free-none, front-body, may-enter, moves, reset-once}
use Rattle.hub_laws.proofs.Steps.{Core, Silent, drops-on, enters-apart, entry-core, entry-on, gone, holds, keeps, known-more, same-held, values, with_entry}
use Rattle.hub_laws.proofs.Taken.{none-fixed}
use Rattle.hub_laws.proofs.Ordered.{IsOrdered, OnStream, begun-any, gone-same, other-on}

none0 : (j : ℕ) → 0 < j → (j == 0) ≡ true → (P : Type 0) → P
none0 j q e P = absurd (clash (j == 0) e (not-zero j q))

bare-filter : (fs : List Frame) → list_any has_bytes fs ≡ false → filter is_bare fs ≡ fs
bare-filter [] h = refl
bare-filter (f ∷ fs) h =
    let p = neither (has_bytes f) (list_any has_bytes fs) h in
    ap (λ b. cond (not b) (f ∷ filter is_bare fs) (filter is_bare fs)) p.0 ∙ ap (λ gs. f ∷ gs) (bare-filter fs p.1)

head-bare : (h : Frame) → is_block h ≡ true → has_bytes h ≡ false
head-bare (frame.Data n bytes last size) b = absurd cc
head-bare h b = refl

-- nothing of the stream is dropped any more
kept-on : (id : ℕ) (log : Log) (waiting : List Waiting) → (is_reset id log ≡ true → list_any has_bytes (on id waiting) ≡ false)
    → list_any is_begun (drop 1 waiting) ≡ false → on id (filter (keeps log) waiting) ≡ on id waiting
kept-on id log waiting h b = by (is_reset id log) refl
  where
    cut : is_reset id log ≡ true → Cut (on id waiting) (on id (filter (keeps log) waiting)) → on id (filter (keeps log) waiting) ≡ on id waiting
    cut r c =
        let p = neither (list_any has_bytes c.kept) (list_any has_bytes c.lost) (sym (list_any-append has_bytes c.kept c.lost) ∙ ap (list_any has_bytes) (sym c.before) ∙ h r) in
        c.after ∙ ap (λ fs. c.kept ++ fs) (bare-filter c.lost p.1) ∙ sym c.before

    kept : (f b k : Bool) → k ≡ false → not (f && b && k) ≡ true
    kept true true true e = absurd cc
    kept true true false e = refl
    kept true false k e = refl
    kept false b k e = refl

    by : (r : Bool) → is_reset id log ≡ r → on id (filter (keeps log) waiting) ≡ on id waiting
    by true r = cut r (on-cut id (keeps log) waiting (drops-on id log r).bare (drops-on id log r).full b)
    by false r = on-whole id (keeps log) waiting
        (λ w s. kept (is_free w) (has_bytes w.frame) (is_reset (stream_of w.frame) log) (subst (λ n. is_reset n log ≡ false) (sym (sent-stream id w.frame s)) r))

-- while what was held for a stream is released
record Between (id : ℕ) (head : Frame) (moved rest body : List Frame) (log : Log) (waiting : List Waiting) (held : List LogEntry) : Type 0 where
  there : 0 < id
  spent : list_any is_spent waiting ≡ false
  begun : list_any is_begun (drop 1 waiting) ≡ false
  others : (j : ℕ) → 0 < j → (id == j) ≡ false → OnStream 0 j log waiting held
  moving : Moving id waiting head moved rest
  whole : body ≡ moved ++ rest
  good : Body (values id log) body
  known : Known log head
  headed : has_head id log ≡ true
  given : gone id log ≡ []
  none : held_on id held ≡ []
  let_go : is_reset id log ≡ true → list_any has_bytes body ≡ false

moved-bytes : (id : ℕ) (head : Frame) (moved rest body : List Frame) (log : Log) (waiting : List Waiting) (held : List LogEntry)
    → Between id head moved rest body log waiting held → list_any has_bytes body ≡ false → list_any has_bytes (on id waiting) ≡ false
moved-bytes id head moved rest body log waiting held b h =
    let m = b.moving in
    let p = neither (list_any has_bytes moved) (list_any has_bytes rest) (sym (list_any-append has_bytes moved rest) ∙ ap (list_any has_bytes) (sym b.whole) ∙ h) in
    ap (list_any has_bytes) m.out ∙ ap (λ x. x || list_any has_bytes moved) (head-bare head m.block) ∙ p.0

owed-silent : (f : Frame) (log : Log) (j : ℕ) → Silent j (Owed f) log
owed-silent f log j = record { handed = refl; ended = refl; sound = refl; head = refl; given = gone-same j (Owed f) log refl }

held-none : (id : ℕ) (keep : LogEntry → Bool) (held : List LogEntry) → held_on id held ≡ [] → held_on id (filter keep held) ≡ []
held-none id keep [] h = refl
held-none id keep (e ∷ held) h = by (is_sent_on id (frame_in e)) refl h (λ x. held-none id keep held x)
  where
    rest : List Frame
    rest = held_on id (filter keep held)

    by : (s : Bool) → is_sent_on id (frame_in e) ≡ s → cond s (frame_in e ∷ held_on id held) (held_on id held) ≡ [] → (held_on id held ≡ [] → rest ≡ [])
        → held_on id (cond (keep e) (e ∷ filter keep held) (filter keep held)) ≡ []
    by true s h r = absurd cc
    by false s h r = each (keep e)
      where
        each : (b : Bool) → held_on id (cond b (e ∷ filter keep held) (filter keep held)) ≡ []
        each true = ap (λ b. cond b (frame_in e ∷ rest) rest) s ∙ r h
        each false = r h

noted-between : (id : ℕ) (head : Frame) (moved rest body : List Frame) (log : Log) (waiting : List Waiting) (held : List LogEntry) (f : Frame)
    → (resets id (Owed f) ≡ true → has_reset body ≡ true) → Between id head moved rest body log waiting held
    → Between id head moved rest body (Owed f ∷ log) (filter (keeps (Owed f ∷ log)) waiting) (filter (holds (Owed f ∷ log)) held)
noted-between id head moved rest body log waiting held f r b = record {
  there = b.there;
  spent = any-filter is_spent (keeps (Owed f ∷ log)) waiting b.spent;
  begun = tail-filter is_begun (keeps (Owed f ∷ log)) waiting b.begun;
  others = λ j p n.
      let s = b.others j p n in
      let k = entry-on j (Owed f) log waiting held s.body b.begun (owed-silent f log j) s.stream in
      record { body = k.body; stream = k.new; clean = λ x. none0 j p x (has_reset k.body ≡ false) };
  moving = let m = b.moving in record {
    block = m.block;
    out = kept-on id (Owed f ∷ log) waiting (λ x. moved-bytes id head moved rest body log waiting held b (bytes x)) b.begun ∙ m.out;
    shape = m.shape;
    bare = m.bare;
    fixed = λ x. tail-filter (is_fixed_on id) (keeps (Owed f ∷ log)) waiting (m.fixed x);
  };
  whole = b.whole;
  good = body-more (values id log) (values id (Owed f ∷ log)) body refl (λ x. (neither (resets id (Owed f)) (is_reset id log) x).1) refl (λ x. x) (known-more (Owed f) log) b.good;
  known = known-more (Owed f) log head b.known;
  headed = b.headed;
  given = gone-same id (Owed f) log refl ∙ b.given;
  none = held-none id (holds (Owed f ∷ log)) held b.none;
  let_go = bytes;
}
  where
    reset-there : has_reset body ≡ true → is_reset id log ≡ true
    reset-there h = by (is_reset id log) refl
      where
        by : (x : Bool) → is_reset id log ≡ x → is_reset id log ≡ true
        by true e = e
        by false e = absurd (clash (has_reset body) h (b.good.resets e))

    bytes : is_reset id (Owed f ∷ log) ≡ true → list_any has_bytes body ≡ false
    bytes x = by (resets id (Owed f)) refl x
      where
        by : (y : Bool) → resets id (Owed f) ≡ y → (y || is_reset id log) ≡ true → list_any has_bytes body ≡ false
        by true e x = b.let_go (reset-there (r e))
        by false e x = b.let_go x

-- an update of the window is none of the stream's course
window-moves : (id : ℕ) (waiting : List Waiting) (head : Frame) (moved rest : List Frame) (f : Frame) → is_sent_on id f ≡ false → is_reset_frame f ≡ false
    → Moving id waiting head moved rest → Moving id (entered f waiting) head moved rest
window-moves id waiting head moved rest f s r m = record {
  block = m.block;
  out = ap (λ b. on id (placed (fresh f) (if b then with_end_placed (stream_of f) waiting else waiting))) r ∙ placed-apart id (fresh f) waiting s ∙ m.out;
  shape = m.shape;
  bare = m.bare;
  fixed = λ x. fixed-enters id f waiting r (m.fixed x);
}

reset-sent : (id : ℕ) (f : Frame) → stream_of f ≡ id → is_sent_on id f ≡ false → is_reset_frame f ≡ false
reset-sent id (frame.Reset n code) e s = absurd (clash (n == id) (eq-eqb n id e) s)
reset-sent id f e s = refl

moving-enters : (id : ℕ) (waiting : List Waiting) (head : Frame) (moved : List Frame) (f : Frame) (rest : List Frame) → is_reset_frame f ≡ true
    → Moving id waiting head moved (f ∷ rest) → MayEnter id waiting
moving-enters id waiting head moved f rest r m =
    let once : has_reset moved ≡ false = reset-once moved f rest m.shape r in
    let none : list_any has_bytes (moved ++ f ∷ rest) ≡ false =
    m.bare (list_any-append is_reset_frame moved (f ∷ rest) ∙ ap (λ b. has_reset moved || (b || has_reset rest)) r ∙ or_true (has_reset moved)) in
    let few : list_any has_bytes moved ≡ false =
    (neither (list_any has_bytes moved) (list_any has_bytes (f ∷ rest)) (sym (list_any-append has_bytes moved (f ∷ rest)) ∙ none)).0 in
    may-enter id [] waiting head moved m.block (front-body moved (f ∷ rest) m.shape) once m.out
    (free-none id waiting (ap (list_any has_bytes) m.out ∙ ap (λ b. b || list_any has_bytes moved) (head-bare head m.block) ∙ few)) (m.fixed once)
  where
    or_true : (b : Bool) → (b || true) ≡ true
    or_true true = refl
    or_true false = refl

resets-there : (id : ℕ) (f : Frame) (rest moved body : List Frame) → body ≡ moved ++ cond (is_sent_on id f) (f ∷ rest) rest → resets id (Owed f) ≡ true
    → has_reset body ≡ true
resets-there id f rest moved body e r = ap has_reset e ∙ by f r
  where
    or_true : (b : Bool) → (b || true) ≡ true
    or_true true = refl
    or_true false = refl

    by : (f : Frame) → resets id (Owed f) ≡ true → has_reset (moved ++ cond (is_sent_on id f) (f ∷ rest) rest) ≡ true
    by (frame.Reset n code) r =
        ap (λ b. has_reset (moved ++ cond b (frame.Reset n code ∷ rest) rest)) r ∙ list_any-append is_reset_frame moved (frame.Reset n code ∷ rest) ∙ or_true (has_reset moved)
    by (frame.Data n bytes last size) r = absurd cc
    by (frame.Headers n block last ends) r = absurd cc
    by (frame.Priority n) r = absurd cc
    by (frame.Settings list) r = absurd cc
    by frame.SettingsAck r = absurd cc
    by (frame.Push n) r = absurd cc
    by (frame.Ping ack bytes) r = absurd cc
    by (frame.GoAway last code) r = absurd cc
    by (frame.Window n k) r = absurd cc
    by (frame.Continuation n block ends) r = absurd cc
    by (frame.Unknown kind) r = absurd cc

may-move : (id : ℕ) (f : Frame) (log : Log) (waiting : List Waiting) (held : List LogEntry) (head : Frame) (moved rest body : List Frame) → stream_of f ≡ id
    → Between id head moved (cond (is_sent_on id f) (f ∷ rest) rest) body log waiting held → is_reset_frame f ≡ true → MayEnter (stream_of f) waiting
may-move id f log waiting held head moved rest body e b r = by (is_sent_on id f) refl
  where
    by : (s : Bool) → is_sent_on id f ≡ s → MayEnter (stream_of f) waiting
    by false s = absurd (clash (is_reset_frame f) r (reset-sent id f e s))
    by true s = subst (λ n. MayEnter n waiting) (sym e)
        (moving-enters id waiting head moved f rest r (subst (λ x. Moving id waiting head moved (cond x (f ∷ rest) rest)) s b.moving))

queue-between : (id : ℕ) (f : Frame) (log : Log) (waiting : List Waiting) (held : List LogEntry) (head : Frame) (moved rest body : List Frame) → stream_of f ≡ id
    → Between id head moved (cond (is_sent_on id f) (f ∷ rest) rest) body log waiting held
    → Between id head (moved ++ cond (is_sent_on id f) (f ∷ []) []) rest body log (entered f waiting) held
queue-between id f log waiting held head moved rest body e b = record {
  there = b.there;
  spent = spent-enters f waiting b.spent;
  begun = begun-any f waiting (may-move id f log waiting held head moved rest body e b) b.begun;
  others = λ j p n.
      let s = b.others j p n in
      record {
        body = s.body;
        stream = enters-apart j (values j log) (has_head j log) (gone j log) waiting held s.body f (other-on j f (ap (λ m. m == j) e ∙ n)) s.stream;
        clean = s.clean;
      };
  moving = by (is_sent_on id f) refl b.moving;
  whole = b.whole ∙ split (is_sent_on id f);
  good = b.good;
  known = b.known;
  headed = b.headed;
  given = b.given;
  none = b.none;
  let_go = b.let_go;
}
  where
    split : (s : Bool) → moved ++ cond s (f ∷ rest) rest ≡ (moved ++ cond s (f ∷ []) []) ++ rest
    split true = sym (append_assoc moved (f ∷ []) rest)
    split false = sym (append_assoc moved [] rest)

    by : (s : Bool) → is_sent_on id f ≡ s → Moving id waiting head moved (cond s (f ∷ rest) rest) → Moving id (entered f waiting) head (moved ++ cond s (f ∷ []) []) rest
    by true s m = moves id waiting head moved f rest b.there s m
    by false s m = subst (λ fs. Moving id (entered f waiting) head fs rest) (sym (append-nil moved))
        (window-moves id waiting head moved rest f s (reset-sent id f e s) m)

abbrev pub AllOf : ℕ → List LogEntry → Type 0
AllOf id [] = Unit {0}
AllOf id (e ∷ es) = (stream_of (frame_in e) ≡ id) × AllOf id es

between-done : (id : ℕ) (head : Frame) (moved body : List Frame) (a : Account) → Between id head moved [] body a.log a.waiting a.held → IsOrdered 0 a
between-done id head moved body a b = record {
  spent = b.spent;
  begun = b.begun;
  on = λ j p. by j p (id == j) refl;
}
  where
    same : body ≡ moved
    same = b.whole ∙ append-nil moved

    own : Stream id (values id a.log) true [] a.waiting a.held body
    own = let m = b.moving in record {
      good = b.good;
      place = record { head = head; block = m.block; known = b.known; out = m.out ∙ ap (λ fs. head ∷ fs) (sym same); held = b.none };
      fixed = λ r. m.fixed (sym (ap has_reset same) ∙ r);
      dropped = λ r. free-none id a.waiting (moved-bytes id head moved [] body a.log a.waiting a.held b (b.let_go r));
      let_go = λ r. ap (list_any has_bytes) b.none;
    }

    by : (j : ℕ) → 0 < j → (x : Bool) → (id == j) ≡ x → OnStream 0 j a.log a.waiting a.held
    by j p false e = b.others j p e
    by j p true e = subst (λ n. OnStream 0 n a.log a.waiting a.held) (eqb-true id j e) (record {
      body = body;
      stream = subst (λ h. Stream id (values id a.log) h (gone id a.log) a.waiting a.held body) (sym b.headed)
          (subst (λ g. Stream id (values id a.log) true g a.waiting a.held body) (sym b.given) own);
      clean = λ x. none0 id b.there x (has_reset body ≡ false);
    })

released-ordered : (id : ℕ) (head : Frame) (es : List LogEntry) (moved body : List Frame) (a : Account) → AllOf id es
    → Between id head moved (held_on id es) body a.log a.waiting a.held → IsOrdered 0 (released es a)
unfolding noted
released-ordered id head [] moved body a h b = between-done id head moved body a b
released-ordered id head (Owed f ∷ es) moved body a h b =
    let log : Log = Owed f ∷ a.log in
    released-ordered id head es (moved ++ cond (is_sent_on id f) (f ∷ []) []) body (queue_with f (noted (Owed f) a)) h.1
    (queue-between id f log (filter (keeps log) a.waiting) (filter (holds log) a.held) head moved (held_on id es) body h.0
    (noted-between id head moved (cond (is_sent_on id f) (f ∷ held_on id es) (held_on id es)) body a.log a.waiting a.held f (resets-there id f (held_on id es) moved body b.whole) b))
released-ordered id head (Handed f ∷ es) moved body a h b =
    released-ordered id head es (moved ++ cond (is_sent_on id f) (f ∷ []) []) body (queue_with f a) h.1 (queue-between id f a.log a.waiting a.held head moved (held_on id es) body h.0 b)
released-ordered id head (Opened n ∷ es) moved body a h b =
    released-ordered id head es (moved ++ cond (is_sent_on id frame.SettingsAck) (frame.SettingsAck ∷ []) []) body (queue_with frame.SettingsAck a) h.1
    (queue-between id frame.SettingsAck a.log a.waiting a.held head moved (held_on id es) body h.0 b)
released-ordered id head (Received f ∷ es) moved body a h b =
    released-ordered id head es (moved ++ cond (is_sent_on id frame.SettingsAck) (frame.SettingsAck ∷ []) []) body (queue_with frame.SettingsAck a) h.1
    (queue-between id frame.SettingsAck a.log a.waiting a.held head moved (held_on id es) body h.0 b)
released-ordered id head (Block n bytes last ∷ es) moved body a h b =
    released-ordered id head es (moved ++ cond (is_sent_on id frame.SettingsAck) (frame.SettingsAck ∷ []) []) body (queue_with frame.SettingsAck a) h.1
    (queue-between id frame.SettingsAck a.log a.waiting a.held head moved (held_on id es) body h.0 b)
released-ordered id head (Violated code ∷ es) moved body a h b =
    released-ordered id head es (moved ++ cond (is_sent_on id frame.SettingsAck) (frame.SettingsAck ∷ []) []) body (queue_with frame.SettingsAck a) h.1
    (queue-between id frame.SettingsAck a.log a.waiting a.held head moved (held_on id es) body h.0 b)
released-ordered id head (Given f ∷ es) moved body a h b =
    released-ordered id head es (moved ++ cond (is_sent_on id frame.SettingsAck) (frame.SettingsAck ∷ []) []) body (queue_with frame.SettingsAck a) h.1
    (queue-between id frame.SettingsAck a.log a.waiting a.held head moved (held_on id es) body h.0 b)
released-ordered id head (Reported e ∷ es) moved body a h b =
    released-ordered id head es (moved ++ cond (is_sent_on id frame.SettingsAck) (frame.SettingsAck ∷ []) []) body (queue_with frame.SettingsAck a) h.1
    (queue-between id frame.SettingsAck a.log a.waiting a.held head moved (held_on id es) body h.0 b)

-- The head itself

all-of : (id : ℕ) (held : List LogEntry) → AllOf id (filter (is_of id) held)
all-of id [] = tt
all-of id (e ∷ held) = by (is_of id e) refl (all-of id held)
  where
    by : (b : Bool) → is_of id e ≡ b → AllOf id (filter (is_of id) held) → AllOf id (cond b (e ∷ filter (is_of id) held) (filter (is_of id) held))
    by true h r = (eqb-true (stream_of (frame_in e)) id h, r)
    by false h r = r

sent-of : (id : ℕ) (e : LogEntry) → is_sent_on id (frame_in e) ≡ true → is_of id e ≡ true
sent-of id e s = (both (not (is_window (frame_in e))) (stream_of (frame_in e) == id) s).1

held-rest : (id : ℕ) (held : List LogEntry) → held_on id (filter (λ e. not (is_of id e)) held) ≡ []
held-rest id [] = refl
held-rest id (e ∷ held) = by (is_of id e) refl (held-rest id held)
  where
    rest : List LogEntry
    rest = filter (λ x. not (is_of id x)) held

    unsent : is_of id e ≡ false → is_sent_on id (frame_in e) ≡ false
    unsent h = other-on id (frame_in e) h

    by : (b : Bool) → is_of id e ≡ b → held_on id rest ≡ [] → held_on id (cond (not b) (e ∷ rest) rest) ≡ []
    by true h r = r
    by false h r = ap (λ s. cond s (frame_in e ∷ held_on id rest) (held_on id rest)) (unsent h) ∙ r

held-others : (id j : ℕ) (held : List LogEntry) → (id == j) ≡ false → held_on j (filter (λ e. not (is_of id e)) held) ≡ held_on j held
held-others id j held n = held-whole j (λ e. not (is_of id e)) held keep
  where
    keep : (e : LogEntry) → is_sent_on j (frame_in e) ≡ true → not (is_of id e) ≡ true
    keep e s = by (is_of id e) refl
      where
        by : (b : Bool) → is_of id e ≡ b → not b ≡ true
        by true h = absurd (clash (id == j) (eq-eqb id j (sym (eqb-true (stream_of (frame_in e)) id h) ∙ sent-stream j (frame_in e) s)) n)
        by false h = refl

pub headed-ordered : (id : ℕ) (block : List ℕ) (ends : Bool) (a : Account) → 0 < id → has_head id a.log ≡ false → IsOrdered 0 a
    → IsOrdered 0 (headed id (frame.Headers id block false ends) a)
unfolding noted
headed-ordered id block ends a p h o =
    released-ordered id f (filter (is_of id) held) [] k.body (record b { held = later }) (all-of id held) (record {
      there = p;
      spent = spent-enters f waits (any-filter is_spent (keeps log) a.waiting o.spent);
      begun = begun-enters f waits refl (tail-filter is_begun (keeps log) a.waiting o.begun);
      others = λ j q n.
          let m = entry-on j (Handed f) a.log a.waiting a.held (o.on j q).body o.begun (silent j n) (o.on j q).stream in
          record {
            body = m.body;
            stream = same-held j (values j log) (has_head j log) (gone j log) (entered f waits) held later m.body (held-others id j held n)
                (enters-apart j (values j log) (has_head j log) (gone j log) waits held m.body f (other-on j f n) m.new);
            clean = λ x. none0 j q x (has_reset m.body ≡ false);
          };
      moving = record {
        block = refl;
        out = placed-last id (fresh f) waits (eq-eqb id id refl) (behind-last id (fresh f) waits (turn-behind id f refl refl)) ∙ ap (λ fs. fs ++ f ∷ []) empty.1;
        shape = ap is_body held-body ∙ s.good.shape;
        bare = λ r. ap (list_any has_bytes) held-body ∙ bytes (reset-there (sym (ap has_reset held-body) ∙ r));
        fixed = λ r. fixed-enters id f waits refl (any-tail (is_fixed_on id) waits (none-fixed id waits empty.1));
      };
      whole = sym held-body;
      good = body-more (with_entry id (Handed f) a.log) (values id log) k.body (append-nil (all_handed id a.log)) (λ x. x) (no-end (id == id)) (λ x. x) (λ g x. x) s.good;
      known = inl (inl refl);
      headed = ap (λ x. x || has_head id a.log) (eq-eqb id id refl);
      given = gone-same id (Handed f) a.log refl ∙ empty.0;
      none = held-rest id held;
      let_go = λ r. bytes r;
    })
  where
    f : Frame
    f = frame.Headers id block false ends

    log : Log
    log = Handed f ∷ a.log

    waits : List Waiting
    waits = filter (keeps log) a.waiting

    held : List LogEntry
    held = filter (holds log) a.held

    later : List LogEntry
    later = filter (λ e. not (is_of id e)) held

    b : Account
    b = queue_with f (noted (Handed f) a)

    no-end : (x : Bool) → ((x && false) || is_ended_here id a.log) ≡ is_ended_here id a.log
    no-end true = refl
    no-end false = refl

    silent : (j : ℕ) → (id == j) ≡ false → Silent j (Handed f) a.log
    silent j n = record {
      handed = append-nil (all_handed j a.log);
      ended = ap (λ x. (x && false) || is_ended_here j a.log) n;
      sound = refl;
      head = ap (λ x. x || has_head j a.log) n;
      given = gone-same j (Handed f) a.log refl;
    }

    k : Core id (Handed f) a.log (has_head id a.log) (gone id a.log) a.waiting a.held (o.on id p).body
    k = entry-core id (Handed f) a.log (has_head id a.log) (gone id a.log) a.waiting a.held (o.on id p).body o.begun (o.on id p).stream

    s : Stream id (with_entry id (Handed f) a.log) false (gone id a.log) waits held k.body
    s = subst (λ x. Stream id (with_entry id (Handed f) a.log) x (gone id a.log) waits held k.body) h k.new

    empty : (gone id a.log ≡ []) × (on id waits ≡ [])
    empty = nothing (gone id a.log) (on id waits) s.place.out

    held-body : held_on id (filter (is_of id) held) ≡ k.body
    held-body = held-whole id (is_of id) held (sent-of id) ∙ s.place.held

    bytes : is_reset id log ≡ true → list_any has_bytes k.body ≡ false
    bytes r = ap (list_any has_bytes) (sym s.place.held) ∙ s.let_go r

    reset-there : has_reset k.body ≡ true → is_reset id log ≡ true
    reset-there x = by (is_reset id log) refl
      where
        by : (y : Bool) → is_reset id log ≡ y → is_reset id log ≡ true
        by true e = e
        by false e = absurd (clash (has_reset k.body) x (s.good.resets e))
