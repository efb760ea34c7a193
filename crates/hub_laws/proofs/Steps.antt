-- The streams of a session by its log, and what each step of the session leaves of them.
use Rattle.std.proofs.Common.{sym, ◌∙◌, ap, subst, inl, inr, append-nil}
use Rattle.std.specs.Prelude.{ℕ, ◌≡◌, Bool, true, false, not, ◌&&◌, ◌||◌, ◌==◌, List, [], ◌∷◌, ◌++◌, drop, map, filter, cond, is_some, refl, if◌then◌else◌}
use Rattle.std.specs.List.{list_any}
use Rattle.std.proofs.lemmas.Bool.{eqb-true, eq-eqb}
use Rattle.std.proofs.lemmas.List.{map-append}
use Rattle.std.proofs.lemmas.List.Elements.{filter-append}
use Rattle.h2_frames.specs.declared.frame.Frame.{Frame}
use Rattle.h2_frames.specs.declared.frame.Frame.TheVariants as frame
use Rattle.h2_model.specs.History.{frame_in}
use Rattle.h2_model.specs.Log.{LogEntry, Log, stream_of, violation}
use Rattle.h2_model.specs.Queue.{Waiting, entered, fresh, has_bytes, is_data, is_free, is_free_of, is_reset_frame, placed, with_end_placed, with_place}
use Rattle.h2_model.specs.Streams.{has_head, is_ended_here, is_reset, resets}
use Rattle.hub_model.specs.Sending.{all_handed}
use Rattle.hub_laws.specs.Outgoing.{IsOwn, Known, frames_given, is_sent_on}
use Rattle.hub_laws.proofs.Courses.{both, clash, has_finish, has_reset, neither}
use Rattle.hub_laws.proofs.Queues.{any-placed, is_begun, is_fixed_on, on, placed-apart, sent-stream, any-filter}
use Rattle.hub_laws.proofs.Resets.{any-all, fixed-enters, fixed-reset, free-sent, reset-apart}
use Rattle.hub_laws.proofs.Held.{Drops, Stream, Values, Where, body-more, drop-content, held_on, is_free_piece, keep-all, where-more}

abbrev pub gone : ℕ → Log → List Frame
gone id log = filter (is_sent_on id) (frames_given log)

abbrev pub values : ℕ → Log → Values
values id log = record {
  handed = all_handed id log;
  reset = is_reset id log;
  ended = is_ended_here id log;
  bad = is_some (violation log);
  known = Known log;
}

abbrev pub On : ℕ → Log → List Waiting → List LogEntry → List Frame → Type 0
On id log waiting held body = Stream id (values id log) (has_head id log) (gone id log) waiting held body

-- the same stream, of which more is known
pub stream-as : (id : ℕ) (v u : Values) (h k : Bool) (g m : List Frame) (waiting : List Waiting) (held : List LogEntry) (body : List Frame)
    → u.handed ≡ v.handed → u.reset ≡ v.reset → u.ended ≡ v.ended → (u.bad ≡ false → v.bad ≡ false) → ((f : Frame) → v.known f → u.known f) → k ≡ h → m ≡ g
    → Stream id v h g waiting held body → Stream id u k m waiting held body
stream-as id v u h k g m waiting held body eh er ee eb kn ek eg s = record {
  good = body-more v u body eh (λ x. sym er ∙ x) ee eb kn s.good;
  place = subst (λ b. Where u b (m ++ on id waiting) (held_on id held) body) (sym ek)
      (subst (λ x. Where u h (x ++ on id waiting) (held_on id held) body) (sym eg) (where-more v u h (g ++ on id waiting) (held_on id held) body kn s.place));
  fixed = s.fixed;
  dropped = λ x. s.dropped (sym er ∙ x);
  let_go = λ x. s.let_go (sym er ∙ x);
}

-- An entry of the log drops what it resets

abbrev pub keeps : Log → Waiting → Bool
keeps log w = not (is_free w && has_bytes w.frame && is_reset (stream_of w.frame) log)

abbrev pub holds : Log → LogEntry → Bool
holds log e = not (has_bytes (frame_in e) && is_reset (stream_of (frame_in e)) log)

-- before the entry itself counts
abbrev pub with_entry : ℕ → LogEntry → Log → Values
with_entry id e log = record {
  handed = all_handed id log;
  reset = is_reset id (e ∷ log);
  ended = is_ended_here id log;
  bad = is_some (violation log);
  known = Known (e ∷ log);
}

pub data-bytes : (f : Frame) → is_data f ≡ false → has_bytes f ≡ false
data-bytes (frame.Data n bytes last size) h = absurd cc
data-bytes f h = refl

pub drops-on : (id : ℕ) (log : Log) → is_reset id log ≡ true → Drops id (keeps log)
drops-on id log r = record {
  bare = λ w s b. bare (is_data w.frame) w.fixed (has_bytes w.frame) (is_reset (stream_of w.frame) log) (at w s) b (data-bytes w.frame);
  full = λ w k. full (is_free w) (has_bytes w.frame) (is_reset (stream_of w.frame) log) k;
  free = λ w f. let p = both (is_free_of id w) (has_bytes w.frame) f in
      free (is_free w) (has_bytes w.frame) (is_reset (stream_of w.frame) log) (both (is_free w) (stream_of w.frame == id) p.0).0 p.1
      (at w (free-sent id w p.0));
}
  where
    at : (w : Waiting) → is_sent_on id w.frame ≡ true → is_reset (stream_of w.frame) log ≡ true
    at w s = subst (λ n. is_reset n log ≡ true) (sym (sent-stream id w.frame s)) r

    bare : (d x b k : Bool) → k ≡ true → (d && x && b) ≡ false → (d ≡ false → b ≡ false) → not ((d && not x) && b && k) ≡ not b
    bare true true true k e h g = absurd cc
    bare true true false k e h g = refl
    bare true false true true e h g = refl
    bare true false true false e h g = absurd cc
    bare true false false k e h g = refl
    bare false x true k e h g = absurd (clash true refl (g refl))
    bare false x false k e h g = refl

    full : (f b k : Bool) → not (f && b && k) ≡ false → not b ≡ false
    full true true k h = refl
    full true false k h = absurd cc
    full false b k h = absurd cc

    free : (f b k : Bool) → f ≡ true → b ≡ true → k ≡ true → not (f && b && k) ≡ false
    free true true true f b k = refl
    free true true false f b k = absurd cc
    free true false k f b h = absurd cc
    free false b k f g h = absurd cc

pub known-more : (e : LogEntry) (log : Log) (f : Frame) → Known log f → Known (e ∷ log) f
known-more e log f (inl s) = inl (inr s)
known-more e log f (inr s) = inr (own f s)
  where
    own : (f : Frame) → IsOwn log f → IsOwn (e ∷ log) f
    own (frame.Reset n code) s = inr s
    own (frame.Data n bytes last size) s = absurd s
    own (frame.Headers n block last ends) s = absurd s
    own (frame.Priority n) s = absurd s
    own (frame.Settings list) s = absurd s
    own frame.SettingsAck s = absurd s
    own (frame.Push n) s = absurd s
    own (frame.Ping ack bytes) s = absurd s
    own (frame.GoAway last code) s = absurd s
    own (frame.Window n k) s = absurd s
    own (frame.Continuation n block ends) s = absurd s
    own (frame.Unknown kind) s = absurd s

pub record Core (id : ℕ) (e : LogEntry) (log : Log) (h : Bool) (g : List Frame) (waiting : List Waiting) (held : List LogEntry) (old : List Frame) : Type 0 where
  pub body : List Frame
  pub new : Stream id (with_entry id e log) h g (filter (keeps (e ∷ log)) waiting) (filter (holds (e ∷ log)) held) body
  pub resets : has_reset body ≡ has_reset old
  pub ends : has_finish body ≡ has_finish old

pub entry-core : (id : ℕ) (e : LogEntry) (log : Log) (h : Bool) (g : List Frame) (waiting : List Waiting) (held : List LogEntry) (old : List Frame)
    → list_any is_begun (drop 1 waiting) ≡ false → Stream id (values id log) h g waiting held old → Core id e log h g waiting held old
entry-core id e log h g waiting held old b s = by (is_reset id (e ∷ log)) refl
  where
    by : (r : Bool) → is_reset id (e ∷ log) ≡ r → Core id e log h g waiting held old
    by true r =
        let d = drop-content id (values id log) h g waiting held old (keeps (e ∷ log)) (holds (e ∷ log)) s (drops-on id (e ∷ log) r)
        (λ x t. bare (has_bytes (frame_in x)) (is_reset (stream_of (frame_in x)) (e ∷ log)) (subst (λ n. is_reset n (e ∷ log) ≡ true) (sym (sent-stream id (frame_in x) t)) r))
        b (with_entry id e log) refl refl (λ x. x) (inl r) (λ x. absurd (clash (is_reset id (e ∷ log)) r x)) (known-more e log) in
        record { body = d.body; new = d.new; resets = d.resets; ends = d.ends }
      where
        bare : (c k : Bool) → k ≡ true → not (c && k) ≡ not c
        bare true true e = refl
        bare true false e = absurd cc
        bare false k e = refl
    by false r =
        let same : is_reset id (e ∷ log) ≡ is_reset id log = r ∙ sym (neither (resets id e) (is_reset id log) r).1 in
        record {
          body = old;
          new = stream-as id (values id log) (with_entry id e log) h h g g (filter (keeps (e ∷ log)) waiting) (filter (holds (e ∷ log)) held) old refl same refl (λ x. x) (known-more e log) refl refl
              (keep-all id (values id log) h g waiting held old (keeps (e ∷ log)) (holds (e ∷ log))
              (λ w t. kept (is_free w) (has_bytes w.frame) (is_reset (stream_of w.frame) (e ∷ log)) (subst (λ n. is_reset n (e ∷ log) ≡ false) (sym (sent-stream id w.frame t)) r))
              (λ x t. left (has_bytes (frame_in x)) (is_reset (stream_of (frame_in x)) (e ∷ log)) (subst (λ n. is_reset n (e ∷ log) ≡ false) (sym (sent-stream id (frame_in x) t)) r)) s);
          resets = refl;
          ends = refl;
        }
      where
        kept : (f c k : Bool) → k ≡ false → not (f && c && k) ≡ true
        kept true true true e = absurd cc
        kept true true false e = refl
        kept true false k e = refl
        kept false c k e = refl

        left : (c k : Bool) → k ≡ false → not (c && k) ≡ true
        left true true e = absurd cc
        left true false e = refl
        left false k e = refl

-- An entry that says nothing of a stream

pub record Silent (id : ℕ) (e : LogEntry) (log : Log) : Type 0 where
  pub handed : all_handed id (e ∷ log) ≡ all_handed id log
  pub ended : is_ended_here id (e ∷ log) ≡ is_ended_here id log
  pub sound : violation (e ∷ log) ≡ violation log
  pub head : has_head id (e ∷ log) ≡ has_head id log
  pub given : gone id (e ∷ log) ≡ gone id log

pub record Noted (id : ℕ) (e : LogEntry) (log : Log) (waiting : List Waiting) (held : List LogEntry) (old : List Frame) : Type 0 where
  pub body : List Frame
  pub new : On id (e ∷ log) (filter (keeps (e ∷ log)) waiting) (filter (holds (e ∷ log)) held) body
  pub resets : has_reset body ≡ has_reset old

pub entry-on : (id : ℕ) (e : LogEntry) (log : Log) (waiting : List Waiting) (held : List LogEntry) (old : List Frame) → list_any is_begun (drop 1 waiting) ≡ false
    → Silent id e log → On id log waiting held old → Noted id e log waiting held old
entry-on id e log waiting held old b q s =
    let k = entry-core id e log (has_head id log) (gone id log) waiting held old b s in
    record {
      body = k.body;
      new = stream-as id (with_entry id e log) (values id (e ∷ log)) (has_head id log) (has_head id (e ∷ log)) (gone id log) (gone id (e ∷ log))
          (filter (keeps (e ∷ log)) waiting) (filter (holds (e ∷ log)) held) k.body q.handed refl q.ended (λ x. sym (ap is_some q.sound) ∙ x) (λ f x. x) q.head q.given k.new;
      resets = k.resets;
    }

-- A frame of another stream enters, or is held

free-fresh : (j : ℕ) (f : Frame) → is_sent_on j f ≡ false → is_free_piece j (fresh f) ≡ false
free-fresh j f s = by (is_free_of j (fresh f)) refl
  where
    by : (b : Bool) → is_free_of j (fresh f) ≡ b → (is_free_of j (fresh f) && has_bytes f) ≡ false
    by true e = absurd (clash (is_sent_on j f) (free-sent j (fresh f) e) s)
    by false e = ap (λ b. b && has_bytes f) e

pub free-ended : (j id : ℕ) (waiting : List Waiting) → list_any (is_free_piece j) waiting ≡ false → list_any (is_free_piece j) (with_end_placed id waiting) ≡ false
free-ended j id waiting h =
    any-all (is_free_piece j) (map with_place (filter (is_free_of id) waiting)) (filter (λ w. not (is_free_of id w)) waiting) (none waiting)
    (any-filter (is_free_piece j) (λ w. not (is_free_of id w)) waiting h)
  where
    bits : (d s b : Bool) → ((d && false) && s && b) ≡ false
    bits true s b = refl
    bits false s b = refl

    flat : (d s b : Bool) → (((d && false) && s) && b) ≡ false
    flat true s b = refl
    flat false s b = refl

    none : (waiting : List Waiting) → list_any (is_free_piece j) (map with_place (filter (is_free_of id) waiting)) ≡ false
    none [] = refl
    none (w ∷ waiting) = by (is_free_of id w) (none waiting)
      where
        rest : List Waiting
        rest = filter (is_free_of id) waiting

        by : (b : Bool) → list_any (is_free_piece j) (map with_place rest) ≡ false → list_any (is_free_piece j) (map with_place (cond b (w ∷ rest) rest)) ≡ false
        by true r = ap (λ b. b || list_any (is_free_piece j) (map with_place rest)) (flat (is_data w.frame) (stream_of w.frame == j) (has_bytes w.frame)) ∙ r
        by false r = r

pub enters-apart : (j : ℕ) (v : Values) (h : Bool) (g : List Frame) (waiting : List Waiting) (held : List LogEntry) (body : List Frame) (f : Frame) → is_sent_on j f ≡ false
    → Stream j v h g waiting held body → Stream j v h g (entered f waiting) held body
enters-apart j v h g waiting held body f n s = by (is_reset_frame f) refl
  where
    make : on j (entered f waiting) ≡ on j waiting → (list_any (is_fixed_on j) (drop 1 waiting) ≡ false → list_any (is_fixed_on j) (drop 1 (entered f waiting)) ≡ false)
        → (list_any (is_free_piece j) waiting ≡ false → list_any (is_free_piece j) (entered f waiting) ≡ false) → Stream j v h g (entered f waiting) held body
    make o x d = record {
      good = s.good;
      place = subst (λ fs. Where v h (g ++ fs) (held_on j held) body) (sym o) s.place;
      fixed = λ r. x (s.fixed r);
      dropped = λ r. d (s.dropped r);
      let_go = s.let_go;
    }

    by : (b : Bool) → is_reset_frame f ≡ b → Stream j v h g (entered f waiting) held body
    by false e =
        make
        (ap (λ b. on j (placed (fresh f) (if b then with_end_placed (stream_of f) waiting else waiting))) e ∙ placed-apart j (fresh f) waiting n)
        (λ x. fixed-enters j f waiting e x)
        (λ x. ap (λ b. list_any (is_free_piece j) (placed (fresh f) (if b then with_end_placed (stream_of f) waiting else waiting))) e
        ∙ any-placed (is_free_piece j) (fresh f) waiting (free-fresh j f n) x)
    by true e = reset f e n make
      where
        other : (n j : ℕ) → (n == j) ≡ false → (j == n) ≡ false
        other n j h = twist (j == n) refl
          where
            twist : (b : Bool) → (j == n) ≡ b → (j == n) ≡ false
            twist true e = absurd (clash (n == j) (eq-eqb n j (sym (eqb-true j n e))) h)
            twist false e = e

        reset : (f : Frame) → is_reset_frame f ≡ true → is_sent_on j f ≡ false
            → (on j (entered f waiting) ≡ on j waiting → (list_any (is_fixed_on j) (drop 1 waiting) ≡ false → list_any (is_fixed_on j) (drop 1 (entered f waiting)) ≡ false)
            → (list_any (is_free_piece j) waiting ≡ false → list_any (is_free_piece j) (entered f waiting) ≡ false) → Stream j v h g (entered f waiting) held body)
            → Stream j v h g (entered f waiting) held body
        reset (frame.Reset n code) e s make =
            make (reset-apart j n code waiting (other n j s)) (λ x. fixed-reset j n code waiting (other n j s) x)
            (λ x. any-placed (is_free_piece j) (fresh (frame.Reset n code)) (with_end_placed n waiting) refl (free-ended j n waiting x))
        reset (frame.Data n bytes last size) e s make = absurd cc
        reset (frame.Headers n block last ends) e s make = absurd cc
        reset (frame.Priority n) e s make = absurd cc
        reset (frame.Settings list) e s make = absurd cc
        reset frame.SettingsAck e s make = absurd cc
        reset (frame.Push n) e s make = absurd cc
        reset (frame.Ping ack bytes) e s make = absurd cc
        reset (frame.GoAway last code) e s make = absurd cc
        reset (frame.Window n k) e s make = absurd cc
        reset (frame.Continuation n block ends) e s make = absurd cc
        reset (frame.Unknown kind) e s make = absurd cc

held-apart : (j : ℕ) (held : List LogEntry) (e : LogEntry) → is_sent_on j (frame_in e) ≡ false → held_on j (held ++ e ∷ []) ≡ held_on j held
held-apart j held e n =
    ap (filter (is_sent_on j)) (map-append frame_in held (e ∷ [])) ∙ filter-append (is_sent_on j) (map frame_in held) (frame_in e ∷ [])
    ∙ ap (λ b. held_on j held ++ cond b (frame_in e ∷ []) []) n ∙ append-nil (held_on j held)

pub same-held : (j : ℕ) (v : Values) (h : Bool) (g : List Frame) (waiting : List Waiting) (held later : List LogEntry) (body : List Frame) → held_on j later ≡ held_on j held
    → Stream j v h g waiting held body → Stream j v h g waiting later body
same-held j v h g waiting held later body e s = record {
  good = s.good;
  place = subst (λ fs. Where v h (g ++ on j waiting) fs body) (sym e) s.place;
  fixed = s.fixed;
  dropped = s.dropped;
  let_go = λ r. ap (list_any has_bytes) e ∙ s.let_go r;
}

pub hold-apart : (j : ℕ) (v : Values) (h : Bool) (g : List Frame) (waiting : List Waiting) (held : List LogEntry) (body : List Frame) (e : LogEntry) → is_sent_on j (frame_in e) ≡ false
    → Stream j v h g waiting held body → Stream j v h g waiting (held ++ e ∷ []) body
hold-apart j v h g waiting held body e n s = same-held j v h g waiting held (held ++ e ∷ []) body (held-apart j held e n) s
