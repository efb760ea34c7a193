-- In a client's session the frames of every stream keep their order: frames that are handed over or owed.
use Rattle.std.proofs.Common.{sym, ◌∙◌, ap, subst, inl, inr, ◌⊎◌, append-nil}
use Rattle.std.specs.Prelude.{ℕ, ◌≡◌, ◌<◌, Bool, true, false, not, ◌&&◌, ◌||◌, ◌==◌, List, [], ◌∷◌, ◌++◌, drop, filter, refl, if◌then◌else◌}
use Rattle.std.specs.List.{list_any}
use Rattle.std.proofs.lemmas.Bool.{eqb-true}
use Rattle.std.proofs.lemmas.List.Folds.{list_any-append}
use Rattle.h2_frames.specs.declared.frame.Frame.{Frame}
use Rattle.h2_frames.specs.declared.frame.Frame.TheVariants as frame
use Rattle.h2_model.specs.Calls.{is_window}
use Rattle.h2_model.specs.Account.{Account, is_headless}
use Rattle.h2_model.specs.History.{handed, hold, noted, queue_with}
use Rattle.h2_model.specs.Log.{LogEntry, Log, Handed, stream_of}
use Rattle.h2_model.specs.Queue.{Waiting, entered, fresh, has_bytes, is_block, is_data, is_reset_frame, with_end_placed}
use Rattle.h2_model.specs.Streams.{has_head, is_opened, is_reset}
use Rattle.h2_laws_log.proofs.Lists.{not-zero}
use Rattle.hub_laws.specs.Outgoing.{frames_given, given_in, is_sent_on}
use Rattle.hub_laws.proofs.Courses.{clash, has_reset, neither}
use Rattle.hub_laws.proofs.Queues.{any-filter, any-placed, is_begun, is_spent, on, tail-filter}
use Rattle.hub_laws.proofs.Resets.{MayEnter, begun-enters, begun-reset, fixed-enters, reset-enters, spent-enters}
use Rattle.hub_laws.proofs.Held.{Body, Stream, Values, is_free_piece}
use Rattle.hub_laws.proofs.Enters.{data-last, hold-more, may-enter, queue-more}
use Rattle.hub_laws.proofs.Steps.{Core, Noted, On, Silent, enters-apart, entry-core, entry-on, free-ended, gone, hold-apart, holds, keeps, values, with_entry}

-- of stream m no reset is among them; 0 is no stream
pub record OnStream (m id : ℕ) (log : Log) (waiting : List Waiting) (held : List LogEntry) : Type 0 where
  pub body : List Frame
  pub stream : On id log waiting held body
  pub clean : (id == m) ≡ true → has_reset body ≡ false

pub record Ordered (m : ℕ) (log : Log) (waiting : List Waiting) (held : List LogEntry) : Type 0 where
  pub spent : list_any is_spent waiting ≡ false
  pub begun : list_any is_begun (drop 1 waiting) ≡ false
  pub on : (id : ℕ) → 0 < id → OnStream m id log waiting held

abbrev pub IsOrdered : ℕ → Account → Type 0
IsOrdered m a = Ordered m a.log a.waiting a.held

pub forget : (m : ℕ) (log : Log) (waiting : List Waiting) (held : List LogEntry) → Ordered m log waiting held → Ordered 0 log waiting held
forget m log waiting held o = record {
  spent = o.spent;
  begun = o.begun;
  on = λ id p. let s = o.on id p in record { body = s.body; stream = s.stream; clean = λ e. absurd (clash (id == 0) e (not-zero id p)) };
}

-- a stream that wasn't reset
pub aim : (m : ℕ) (log : Log) (waiting : List Waiting) (held : List LogEntry) → is_reset m log ≡ false → Ordered 0 log waiting held → Ordered m log waiting held
aim m log waiting held r o = record {
  spent = o.spent;
  begun = o.begun;
  on = λ id p. let s = o.on id p in record { body = s.body; stream = s.stream; clean = λ e. s.stream.good.resets (subst (λ n. is_reset n log ≡ false) (sym (eqb-true id m e)) r) };
}

pub gone-same : (id : ℕ) (e : LogEntry) (log : Log) → given_in e ≡ [] → gone id (e ∷ log) ≡ gone id log
gone-same id e log h = ap (filter (is_sent_on id)) (ap (λ fs. frames_given log ++ fs) h ∙ append-nil (frames_given log))

-- An entry that speaks of no stream's own course
pub entry-ordered : (m : ℕ) (e : LogEntry) (a : Account) → ((id : ℕ) → Silent id e a.log) → IsOrdered m a → IsOrdered m (noted e a)
unfolding noted
entry-ordered m e a q o = record {
  spent = any-filter is_spent (keeps (e ∷ a.log)) a.waiting o.spent;
  begun = tail-filter is_begun (keeps (e ∷ a.log)) a.waiting o.begun;
  on = λ id p.
      let s = o.on id p in
      let n = entry-on id e a.log a.waiting a.held s.body o.begun (q id) s.stream in
      record { body = n.body; stream = n.new; clean = λ x. n.resets ∙ s.clean x };
}

-- Data of a stream that is open, or a reset of it, is handed over or owed

pub other-on : (id : ℕ) (f : Frame) → (stream_of f == id) ≡ false → is_sent_on id f ≡ false
other-on id f h = by (not (is_window f)) (stream_of f == id) h
  where
    by : (x y : Bool) → y ≡ false → (x && y) ≡ false
    by true y h = h
    by false y h = refl

pub begun-any : (f : Frame) (queue : List Waiting) → (is_reset_frame f ≡ true → MayEnter (stream_of f) queue) → list_any is_begun (drop 1 queue) ≡ false
    → list_any is_begun (drop 1 (entered f queue)) ≡ false
begun-any (frame.Reset n code) queue m h = begun-reset n code queue (m refl).loose h
begun-any (frame.Data n bytes last size) queue m h = begun-enters (frame.Data n bytes last size) queue refl h
begun-any (frame.Headers n block last ends) queue m h = begun-enters (frame.Headers n block last ends) queue refl h
begun-any (frame.Priority n) queue m h = begun-enters (frame.Priority n) queue refl h
begun-any (frame.Settings list) queue m h = begun-enters (frame.Settings list) queue refl h
begun-any frame.SettingsAck queue m h = begun-enters frame.SettingsAck queue refl h
begun-any (frame.Push n) queue m h = begun-enters (frame.Push n) queue refl h
begun-any (frame.Ping ack bytes) queue m h = begun-enters (frame.Ping ack bytes) queue refl h
begun-any (frame.GoAway last code) queue m h = begun-enters (frame.GoAway last code) queue refl h
begun-any (frame.Window n k) queue m h = begun-enters (frame.Window n k) queue refl h
begun-any (frame.Continuation n block ends) queue m h = begun-enters (frame.Continuation n block ends) queue refl h
begun-any (frame.Unknown kind) queue m h = begun-enters (frame.Unknown kind) queue refl h

-- a frame on its own stream: what it adds there
pub record Adds (f : Frame) (id : ℕ) (v u : Values) (old : List Frame) : Type 0 where
  pub sent : is_sent_on id f ≡ true
  pub stream : stream_of f ≡ id
  pub more : Body v old → Body u (old ++ f ∷ [])
  pub reset : u.reset ≡ true → (v.reset ≡ true) × (has_bytes f ≡ false)
  pub kind : ((is_data f ≡ true) × (v.reset ≡ false)) ⊎ ((is_reset_frame f ≡ true) × (v.reset ≡ true) × (has_reset old ≡ false))
  pub known : (g : Frame) → v.known g → u.known g

reset-form : (f : Frame) → is_reset_frame f ≡ true → (P : Frame → Type 0) → ((code : ℕ) → P (frame.Reset (stream_of f) code)) → P f
reset-form (frame.Reset n code) h P p = p code
reset-form (frame.Data n bytes last size) h P p = absurd cc
reset-form (frame.Headers n block last ends) h P p = absurd cc
reset-form (frame.Priority n) h P p = absurd cc
reset-form (frame.Settings list) h P p = absurd cc
reset-form frame.SettingsAck h P p = absurd cc
reset-form (frame.Push n) h P p = absurd cc
reset-form (frame.Ping ack bytes) h P p = absurd cc
reset-form (frame.GoAway last code) h P p = absurd cc
reset-form (frame.Window n k) h P p = absurd cc
reset-form (frame.Continuation n block ends) h P p = absurd cc
reset-form (frame.Unknown kind) h P p = absurd cc

data-no-reset : (f : Frame) → is_data f ≡ true → (is_reset_frame f ≡ false) × (is_block f ≡ false)
data-no-reset (frame.Data n bytes last size) h = (refl, refl)
data-no-reset (frame.Headers n block last ends) h = absurd cc
data-no-reset (frame.Reset n code) h = absurd cc
data-no-reset f h = (refl, refl)

has-last : (fs : List Frame) (f : Frame) → is_reset_frame f ≡ true → has_reset (fs ++ f ∷ []) ≡ true
has-last fs f h = list_any-append is_reset_frame fs (f ∷ []) ∙ ap (λ b. has_reset fs || (b || false)) h ∙ or_true (has_reset fs)
  where
    or_true : (b : Bool) → (b || true) ≡ true
    or_true true = refl
    or_true false = refl

-- when a reset enters, its stream lets it
pub entering : (f : Frame) (id : ℕ) (v u : Values) (g : List Frame) (waiting : List Waiting) (held : List LogEntry) (old : List Frame)
    → Stream id v true g waiting held old → Adds f id v u old → is_reset_frame f ≡ true → MayEnter (stream_of f) waiting
entering f id v u g waiting held old s d h = subst (λ n. MayEnter n waiting) (sym d.stream) (by d.kind)
  where
    by : ((is_data f ≡ true) × (v.reset ≡ false)) ⊎ ((is_reset_frame f ≡ true) × (v.reset ≡ true) × (has_reset old ≡ false)) → MayEnter id waiting
    by (inl x) = absurd (clash (is_reset_frame f) h (data-no-reset f x.0).0)
    by (inr x) = may-enter id g waiting s.place.head old s.place.block s.good.shape x.2 s.place.out (s.dropped x.1) (s.fixed x.2)

pub own-queued : (f : Frame) (id : ℕ) (v u : Values) (g : List Frame) (waiting : List Waiting) (held : List LogEntry) (old : List Frame) → 0 < id
    → Stream id v true g waiting held old → Adds f id v u old → Stream id u true g (entered f waiting) held (old ++ f ∷ [])
own-queued f id v u g waiting held old p s d = by d.kind
  where
    by : ((is_data f ≡ true) × (v.reset ≡ false)) ⊎ ((is_reset_frame f ≡ true) × (v.reset ≡ true) × (has_reset old ≡ false))
        → Stream id u true g (entered f waiting) held (old ++ f ∷ [])
    by (inl x) =
        let k = data-no-reset f x.0 in
        queue-more id v u g waiting (entered f waiting) held old f s (data-last id f waiting d.sent k.1 k.0 x.0)
        (λ r. fixed-enters id f waiting k.0 (s.fixed (neither (has_reset old) (has_reset (f ∷ [])) (sym (list_any-append is_reset_frame old (f ∷ [])) ∙ r)).0))
        (λ r. absurd (clash v.reset (d.reset r).0 x.1)) (λ r. (d.reset r).0) d.known (d.more s.good)
    by (inr x) =
        queue-more id v u g waiting (entered f waiting) held old f s
        (place (entering f id v u g waiting held old s d x.0))
        (λ r. absurd (clash (has_reset (old ++ f ∷ [])) (has-last old f x.0) r))
        (λ r. free (s.dropped x.1)) (λ r. x.1) d.known (d.more s.good)
      where
        place : MayEnter (stream_of f) waiting → on id (entered f waiting) ≡ on id waiting ++ f ∷ []
        place m = subst (λ n. on n (entered f waiting) ≡ on n waiting ++ f ∷ []) d.stream
            (reset-form f x.0 (λ h. 0 < stream_of h → MayEnter (stream_of h) waiting → on (stream_of h) (entered h waiting) ≡ on (stream_of h) waiting ++ h ∷ [])
            (λ code q n. reset-enters (stream_of f) code waiting q n) (subst (λ n. 0 < n) (sym d.stream) p) m)

        free : list_any (is_free_piece id) waiting ≡ false → list_any (is_free_piece id) (entered f waiting) ≡ false
        free h = reset-form f x.0 (λ y. list_any (is_free_piece id) (entered y waiting) ≡ false)
            (λ code. any-placed (is_free_piece id) (fresh (frame.Reset (stream_of f) code)) (with_end_placed (stream_of f) waiting) refl (free-ended id (stream_of f) waiting h))

-- A call hands a frame over

pub headless-is : (a : Account) (id : ℕ) → a.client ≡ true → is_opened id a.log ≡ true → is_headless a id ≡ not (has_head id a.log)
headless-is a id c o = ap (λ b. b && is_opened id a.log && not (has_head id a.log)) c ∙ ap (λ b. b && not (has_head id a.log)) o

pub record Hands (f : Frame) (a : Account) : Type 0 where
  pub client : a.client ≡ true
  pub there : 0 < stream_of f
  pub opened : is_opened (stream_of f) a.log ≡ true
  pub other : (id : ℕ) → (stream_of f == id) ≡ false → Silent id (Handed f) a.log
  pub head : has_head (stream_of f) (Handed f ∷ a.log) ≡ has_head (stream_of f) a.log
  pub own : (body : List Frame) → (is_reset (stream_of f) a.log ≡ false → has_reset body ≡ false)
      → Adds f (stream_of f) (with_entry (stream_of f) (Handed f) a.log) (values (stream_of f) (Handed f ∷ a.log)) body
  pub live : is_reset (stream_of f) a.log ≡ false

pub handed-ordered : (f : Frame) (a : Account) → Hands f a → IsOrdered 0 a → IsOrdered 0 (handed f a)
unfolding handed noted
handed-ordered f a h o = by (has_head n a.log) refl
  where
    n : ℕ
    n = stream_of f

    log : Log
    log = Handed f ∷ a.log

    waits : List Waiting
    waits = filter (keeps log) a.waiting

    held : List LogEntry
    held = filter (holds log) a.held

    given : (id : ℕ) → gone id log ≡ gone id a.log
    given id = gone-same id (Handed f) a.log refl

    core : (p : 0 < n) → Core n (Handed f) a.log (has_head n a.log) (gone n a.log) a.waiting a.held (o.on n p).body
    core p = entry-core n (Handed f) a.log (has_head n a.log) (gone n a.log) a.waiting a.held (o.on n p).body o.begun (o.on n p).stream

    adds : (k : Core n (Handed f) a.log (has_head n a.log) (gone n a.log) a.waiting a.held (o.on n h.there).body)
        → Adds f n (with_entry n (Handed f) a.log) (values n log) k.body
    adds k = h.own k.body (λ r. k.resets ∙ (o.on n h.there).stream.good.resets r)

    none : (id : ℕ) → 0 < id → (id == 0) ≡ true → (P : Type 0) → P
    none id p e P = absurd (clash (id == 0) e (not-zero id p))

    noted-on : (id : ℕ) (p : 0 < id) → (n == id) ≡ false → Noted id (Handed f) a.log a.waiting a.held (o.on id p).body
    noted-on id p e = entry-on id (Handed f) a.log a.waiting a.held (o.on id p).body o.begun (h.other id e) (o.on id p).stream

    held-case : has_head n a.log ≡ false → Ordered 0 log waits (held ++ Handed f ∷ [])
    held-case e = record {
      spent = any-filter is_spent (keeps log) a.waiting o.spent;
      begun = tail-filter is_begun (keeps log) a.waiting o.begun;
      on = λ id p. each id p (n == id) refl;
    }
      where
        each : (id : ℕ) → 0 < id → (b : Bool) → (n == id) ≡ b → OnStream 0 id log waits (held ++ Handed f ∷ [])
        each id p false q =
            let k = noted-on id p q in
            record {
              body = k.body;
              stream = hold-apart id (values id log) (has_head id log) (gone id log) waits held k.body (Handed f) (other-on id f q) k.new;
              clean = λ x. none id p x (has_reset k.body ≡ false);
            }
        each id p true q = subst (λ m. OnStream 0 m log waits (held ++ Handed f ∷ [])) (eqb-true n id q)
            (let k = core h.there in
            let d = adds k in
            let s : Stream n (with_entry n (Handed f) a.log) false (gone n a.log) waits held k.body =
            subst (λ b. Stream n (with_entry n (Handed f) a.log) b (gone n a.log) waits held k.body) e k.new in
            let t : Stream n (values n log) false (gone n a.log) waits (held ++ Handed f ∷ []) (k.body ++ f ∷ []) =
            hold-more n (with_entry n (Handed f) a.log) (values n log) (gone n a.log) waits held k.body (Handed f) s d.sent d.reset (d.more s.good) in
            record {
              body = k.body ++ f ∷ [];
              stream = subst (λ b. Stream n (values n log) b (gone n log) waits (held ++ Handed f ∷ []) (k.body ++ f ∷ [])) (sym (h.head ∙ e))
                  (subst (λ g. Stream n (values n log) false g waits (held ++ Handed f ∷ []) (k.body ++ f ∷ [])) (sym (given n)) t);
              clean = λ x. none n h.there x (has_reset (k.body ++ f ∷ []) ≡ false);
            })

    queued-case : has_head n a.log ≡ true → Ordered 0 log (entered f waits) held
    queued-case e = record {
      spent = spent-enters f waits (any-filter is_spent (keeps log) a.waiting o.spent);
      begun = begun-any f waits (λ r. entering f n (with_entry n (Handed f) a.log) (values n log) (gone n a.log) waits held k.body s d r)
          (tail-filter is_begun (keeps log) a.waiting o.begun);
      on = λ id p. each id p (n == id) refl;
    }
      where
        k : Core n (Handed f) a.log (has_head n a.log) (gone n a.log) a.waiting a.held (o.on n h.there).body
        k = core h.there

        d : Adds f n (with_entry n (Handed f) a.log) (values n log) k.body
        d = adds k

        s : Stream n (with_entry n (Handed f) a.log) true (gone n a.log) waits held k.body
        s = subst (λ b. Stream n (with_entry n (Handed f) a.log) b (gone n a.log) waits held k.body) e k.new

        each : (id : ℕ) → 0 < id → (b : Bool) → (n == id) ≡ b → OnStream 0 id log (entered f waits) held
        each id p false q =
            let m = noted-on id p q in
            record {
              body = m.body;
              stream = enters-apart id (values id log) (has_head id log) (gone id log) waits held m.body f (other-on id f q) m.new;
              clean = λ x. none id p x (has_reset m.body ≡ false);
            }
        each id p true q = subst (λ m. OnStream 0 m log (entered f waits) held) (eqb-true n id q)
            (let t : Stream n (values n log) true (gone n a.log) (entered f waits) held (k.body ++ f ∷ []) =
            own-queued f n (with_entry n (Handed f) a.log) (values n log) (gone n a.log) waits held k.body h.there s d in
            record {
              body = k.body ++ f ∷ [];
              stream = subst (λ b. Stream n (values n log) b (gone n log) (entered f waits) held (k.body ++ f ∷ [])) (sym (h.head ∙ e))
                  (subst (λ g. Stream n (values n log) true g (entered f waits) held (k.body ++ f ∷ [])) (sym (given n)) t);
              clean = λ x. none n h.there x (has_reset (k.body ++ f ∷ []) ≡ false);
            })

    pick : (b : Bool) → is_headless a n ≡ b → (b ≡ true → Ordered 0 log waits (held ++ Handed f ∷ [])) → (b ≡ false → Ordered 0 log (entered f waits) held)
        → IsOrdered 0 (if is_headless a n then hold (Handed f) (record a { log = log; waiting = waits; held = held })
        else queue_with f (record a { log = log; waiting = waits; held = held }))
    pick true e x y = subst (λ b. IsOrdered 0 (if b then hold (Handed f) (record a { log = log; waiting = waits; held = held })
        else queue_with f (record a { log = log; waiting = waits; held = held }))) (sym e) (x refl)
    pick false e x y = subst (λ b. IsOrdered 0 (if b then hold (Handed f) (record a { log = log; waiting = waits; held = held })
        else queue_with f (record a { log = log; waiting = waits; held = held }))) (sym e) (y refl)

    by : (b : Bool) → has_head n a.log ≡ b
        → IsOrdered 0 (if is_headless a n then hold (Handed f) (record a { log = log; waiting = waits; held = held })
        else queue_with f (record a { log = log; waiting = waits; held = held }))
    by true e = pick false (headless-is a n h.client h.opened ∙ ap not e) (λ x. absurd (clash false x refl)) (λ x. queued-case e)
    by false e = pick true (headless-is a n h.client h.opened ∙ ap not e) (λ x. held-case e) (λ x. absurd (clash true refl x))
