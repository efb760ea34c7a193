-- Bytes are taken, and the connection fails: the frames of every stream keep their order.
use Rattle.std.proofs.Common.{sym, ◌∙◌, ap, subst, arith, inr, append-nil, append_assoc}
use Rattle.std.specs.Prelude.{ℕ, suc, zero, ◌-◌, ◌≡◌, ◌<◌, Bool, true, false, not, ◌&&◌, ◌||◌, ◌==◌, List, [], ◌∷◌, ◌++◌, length, drop, map, filter, cond, is_some, refl, if◌then◌else◌, nat_lt}
use Rattle.std.specs.List.{list_any}
use Rattle.std.proofs.lemmas.Bool.{eqb-true, ltb-true}
use Rattle.std.proofs.lemmas.List.{map-append}
use Rattle.std.proofs.lemmas.List.Elements.{filter-append}
use Rattle.std.proofs.lemmas.List.Folds.{list_any-append}
use Rattle.h2_frames.specs.declared.frame.Frame.{Frame}
use Rattle.h2_frames.specs.declared.frame.Frame.TheVariants as frame
use Rattle.h2_model.specs.Account.{Account}
use Rattle.h2_model.specs.History.{Take, called, frame_in, given, last_of_peer, violated}
use Rattle.h2_model.specs.Log.{Log, Given, Owed, Violated, is_empty, stream_of, violation}
use Rattle.h2_model.specs.Queue.{Waiting, behind, fresh, has_bytes, is_data, is_free, is_free_content, is_free_of, whole_within}
use Rattle.h2_model.specs.Streams.{has_head, is_ended_here, is_reset}
use Rattle.h2_laws_log.proofs.Lists.{not-zero}
use Rattle.h2_laws_log.proofs.Sounds.{fresh-left}
use Rattle.hub_model.specs.Sending.{all_handed}
use Rattle.hub_laws.specs.Outgoing.{Known, frames_given, is_sent_on}
use Rattle.hub_laws.proofs.Courses.{both, clash, has_reset, is_bare, neither}
use Rattle.hub_laws.proofs.Queues.{any-filter, any-tail, given-on, is_begun, is_fixed_on, is_spent, on, tail-filter}
use Rattle.hub_laws.proofs.Resets.{none-on}
use Rattle.hub_laws.proofs.Held.{Drops, Stream, Where, drop-content, held_on, is_free_piece, nothing}
use Rattle.hub_laws.proofs.Enters.{free-none}
use Rattle.hub_laws.proofs.Steps.{On, data-bytes, gone, known-more, same-held, stream-as, values}
use Rattle.hub_laws.proofs.Ordered.{IsOrdered, OnStream, gone-same}

-- Bytes are given

given-handed : (id : ℕ) (fs : List Frame) (log : Log) → all_handed id (given fs log) ≡ all_handed id log
given-handed id [] log = refl
given-handed id (f ∷ fs) log = given-handed id fs (Given f ∷ log)

given-reset : (id : ℕ) (fs : List Frame) (log : Log) → is_reset id (given fs log) ≡ is_reset id log
given-reset id [] log = refl
given-reset id (f ∷ fs) log = given-reset id fs (Given f ∷ log)

given-ended : (id : ℕ) (fs : List Frame) (log : Log) → is_ended_here id (given fs log) ≡ is_ended_here id log
given-ended id [] log = refl
given-ended id (f ∷ fs) log = given-ended id fs (Given f ∷ log)

given-head : (id : ℕ) (fs : List Frame) (log : Log) → has_head id (given fs log) ≡ has_head id log
given-head id [] log = refl
given-head id (f ∷ fs) log = given-head id fs (Given f ∷ log)

given-sound : (fs : List Frame) (log : Log) → violation (given fs log) ≡ violation log
given-sound [] log = refl
given-sound (f ∷ fs) log = given-sound fs (Given f ∷ log)

given-known : (fs : List Frame) (log : Log) (f : Frame) → Known log f → Known (given fs log) f
given-known [] log f k = k
given-known (g ∷ fs) log f k = given-known fs (Given g ∷ log) f (known-more (Given g) log f k)

given-frames : (fs : List Frame) (log : Log) → frames_given (given fs log) ≡ frames_given log ++ fs
given-frames [] log = sym (append-nil (frames_given log))
given-frames (f ∷ fs) log = given-frames fs (Given f ∷ log) ∙ append_assoc (frames_given log) (f ∷ []) fs

behind-tail : (p : Waiting → Bool) (n : ℕ) (queue : List Waiting) → list_any p (drop 1 queue) ≡ false → list_any p (drop 1 (behind n queue)) ≡ false
behind-tail p n [] h = refl
behind-tail p n (w ∷ queue) h =
    by (n == 0) (nat_lt n (length w.left)) (behind-tail p (n - length w.left) queue (any-tail p queue h))
  where
    by : (z l : Bool) → list_any p (drop 1 (behind (n - length w.left) queue)) ≡ false
        → list_any p (drop 1 (if z then w ∷ queue else if l then record w { left = drop n w.left; fixed = true } ∷ queue else behind (n - length w.left) queue)) ≡ false
    by true l r = h
    by false true r = h
    by false false r = r

behind-free : (id n : ℕ) (queue : List Waiting) → list_any (is_free_piece id) queue ≡ false → list_any (is_free_piece id) (behind n queue) ≡ false
behind-free id n [] h = refl
behind-free id n (w ∷ queue) h =
    let q = neither (is_free_piece id w) (list_any (is_free_piece id) queue) h in
    by (n == 0) (nat_lt n (length w.left)) q.1 (behind-free id (n - length w.left) queue q.1)
  where
    bits : (d s b : Bool) → (((d && false) && s) && b) ≡ false
    bits true s b = refl
    bits false s b = refl

    by : (z l : Bool) → list_any (is_free_piece id) queue ≡ false → list_any (is_free_piece id) (behind (n - length w.left) queue) ≡ false
        → list_any (is_free_piece id) (if z then w ∷ queue else if l then record w { left = drop n w.left; fixed = true } ∷ queue else behind (n - length w.left) queue) ≡ false
    by true l q r = h
    by false true q r = ap (λ b. b || list_any (is_free_piece id) queue) (bits (is_data w.frame) (stream_of w.frame == id) (has_bytes w.frame)) ∙ q
    by false false q r = r

some-left : (n : ℕ) (xs : List ℕ) → n < length xs → is_empty (drop n xs) ≡ false
some-left zero [] h = absurd (none h)
  where
    none : 0 < 0 → ⊥
    none h = omega arith
some-left (suc n) [] h = absurd (none h)
  where
    none : suc n < 0 → ⊥
    none h = omega arith
some-left zero (x ∷ xs) h = refl
some-left (suc n) (x ∷ xs) h = some-left n xs (omega arith)

behind-spent : (n : ℕ) (queue : List Waiting) → list_any is_spent queue ≡ false → list_any is_spent (behind n queue) ≡ false
behind-spent n [] h = refl
behind-spent n (w ∷ queue) h =
    let q = neither (is_spent w) (list_any is_spent queue) h in
    by (n == 0) (nat_lt n (length w.left)) refl q.1 (behind-spent (n - length w.left) queue q.1)
  where
    by : (z l : Bool) → nat_lt n (length w.left) ≡ l → list_any is_spent queue ≡ false → list_any is_spent (behind (n - length w.left) queue) ≡ false
        → list_any is_spent (if z then w ∷ queue else if l then record w { left = drop n w.left; fixed = true } ∷ queue else behind (n - length w.left) queue) ≡ false
    by true l e q r = h
    by false true e q r = ap (λ b. b || list_any is_spent queue) (some-left n w.left (ltb-true n (length w.left) e)) ∙ q
    by false false e q r = r

pub taken-ordered : (n : ℕ) (a : Account) → IsOrdered 0 a → IsOrdered 0 (called (Take n) a)
unfolding called
taken-ordered n a o = record {
  spent = behind-spent n a.waiting o.spent;
  begun = behind-tail is_begun n a.waiting o.begun;
  on = λ id p. let s = o.on id p in record { body = s.body; stream = on-one id s.body s.stream; clean = λ e. absurd (clash (id == 0) e (not-zero id p)) };
}
  where
    fs : List Frame
    fs = whole_within n a.waiting

    log : Log
    log = given fs a.log

    out : (id : ℕ) → gone id log ++ on id (behind n a.waiting) ≡ gone id a.log ++ on id a.waiting
    out id =
        let sent : List Frame → List Frame = filter (is_sent_on id) in
        ap (λ gs. sent gs ++ on id (behind n a.waiting)) (given-frames fs a.log)
        ∙ sym (filter-append (is_sent_on id) (frames_given a.log ++ fs) (map (λ (w : Waiting). w.frame) (behind n a.waiting)))
        ∙ ap sent (append_assoc (frames_given a.log) fs (map (λ (w : Waiting). w.frame) (behind n a.waiting)) ∙ ap (λ gs. frames_given a.log ++ gs) (given-on n a.waiting o.spent))
        ∙ filter-append (is_sent_on id) (frames_given a.log) (map (λ (w : Waiting). w.frame) a.waiting)

    on-one : (id : ℕ) (body : List Frame) → On id a.log a.waiting a.held body → On id log (behind n a.waiting) a.held body
    on-one id body s =
        stream-as id (values id a.log) (values id log) (has_head id a.log) (has_head id log) (gone id log) (gone id log) (behind n a.waiting) a.held body
        (given-handed id fs a.log) (given-reset id fs a.log) (given-ended id fs a.log) (λ x. sym (ap is_some (given-sound fs a.log)) ∙ x) (given-known fs a.log)
        (given-head id fs a.log) refl
        (record {
          good = s.good;
          place = subst (λ gs. Where (values id a.log) (has_head id a.log) gs (held_on id a.held) body) (sym (out id)) s.place;
          fixed = λ r. behind-tail (is_fixed_on id) n a.waiting (s.fixed r);
          dropped = λ r. behind-free id n a.waiting (s.dropped r);
          let_go = s.let_go;
        })

-- The connection fails

abbrev stays : Waiting → Bool
stays w = not (is_free_content w)

drops-fail : (id : ℕ) → Drops id stays
drops-fail id = record {
  bare = λ w s b. bare (is_data w.frame) w.fixed (has_bytes w.frame) b (data-bytes w.frame);
  full = λ w k. full (is_free w) (has_bytes w.frame) k;
  free = λ w f. let p = both (is_free_of id w) (has_bytes w.frame) f in free (is_free w) (has_bytes w.frame) (both (is_free w) (stream_of w.frame == id) p.0).0 p.1;
}
  where
    bare : (d x b : Bool) → (d && x && b) ≡ false → (d ≡ false → b ≡ false) → not ((d && not x) && b) ≡ not b
    bare true true true h g = absurd cc
    bare true true false h g = refl
    bare true false b h g = refl
    bare false x true h g = absurd (clash true refl (g refl))
    bare false x false h g = refl

    full : (f b : Bool) → not (f && b) ≡ false → not b ≡ false
    full true b h = h
    full false b h = absurd cc

    free : (f b : Bool) → f ≡ true → b ≡ true → not (f && b) ≡ false
    free true true f b = refl
    free true false f b = absurd cc
    free false b f g = absurd cc

on-last : (id : ℕ) (queue : List Waiting) (w : Waiting) → is_sent_on id w.frame ≡ false → on id (queue ++ w ∷ []) ≡ on id queue
on-last id queue w h =
    ap (filter (is_sent_on id)) (map-append (λ (v : Waiting). v.frame) queue (w ∷ [])) ∙ filter-append (is_sent_on id) (map (λ (v : Waiting). v.frame) queue) (w.frame ∷ [])
    ∙ ap (λ b. on id queue ++ cond b (w.frame ∷ []) []) h ∙ append-nil (on id queue)

any-last : (p : Waiting → Bool) (queue : List Waiting) (w : Waiting) → p w ≡ false → list_any p queue ≡ false → list_any p (queue ++ w ∷ []) ≡ false
any-last p queue w h q = list_any-append p queue (w ∷ []) ∙ ap (λ b. b || (p w || false)) q ∙ ap (λ b. b || false) h

tail-last : (p : Waiting → Bool) (queue : List Waiting) (w : Waiting) → p w ≡ false → list_any p (drop 1 queue) ≡ false → list_any p (drop 1 (queue ++ w ∷ [])) ≡ false
tail-last p [] w h q = refl
tail-last p (v ∷ queue) w h q = any-last p queue w h q

pub zero-other : (id : ℕ) → 0 < id → (0 == id) ≡ false
zero-other id p = by (0 == id) refl
  where
    by : (b : Bool) → (0 == id) ≡ b → (0 == id) ≡ false
    by true e = absurd (none (subst (λ n. 0 < n) (sym (eqb-true 0 id e)) p))
      where
        none : 0 < 0 → ⊥
        none h = omega arith
    by false e = e

pub none-fixed : (id : ℕ) (queue : List Waiting) → on id queue ≡ [] → list_any (is_fixed_on id) queue ≡ false
none-fixed id [] h = refl
none-fixed id (w ∷ queue) h = by (is_sent_on id w.frame) refl h (λ x. none-fixed id queue x)
  where
    fixed-sent : (f : Frame) (x : Bool) → is_sent_on id f ≡ false → (is_data f && x && (stream_of f == id)) ≡ false
    fixed-sent (frame.Data n bytes last size) x s = bits x (n == id) s
      where
        bits : (x s : Bool) → s ≡ false → (x && s) ≡ false
        bits true s h = h
        bits false s h = refl
    fixed-sent f x s = refl

    by : (b : Bool) → is_sent_on id w.frame ≡ b → cond b (w.frame ∷ on id queue) (on id queue) ≡ [] → (on id queue ≡ [] → list_any (is_fixed_on id) queue ≡ false)
        → (is_fixed_on id w || list_any (is_fixed_on id) queue) ≡ false
    by true s h r = absurd cc
    by false s h r = ap (λ b. b || list_any (is_fixed_on id) queue) (fixed-sent w.frame w.fixed s) ∙ r h

pub violated-ordered : (code : ℕ) (a : Account) → IsOrdered 0 a → IsOrdered 0 (violated code a)
violated-ordered code a o = record {
  spent = any-last is_spent (filter stays a.waiting) last (flip (is_spent last) (fresh-left goaway)) (any-filter is_spent stays a.waiting o.spent);
  begun = tail-last is_begun (filter stays a.waiting) last refl (tail-filter is_begun stays a.waiting o.begun);
  on = λ id p. let s = o.on id p in by id p s.body (has_head id a.log) refl s.stream;
}
  where
    goaway : Frame
    goaway = frame.GoAway (last_of_peer a) code

    last : Waiting
    last = fresh goaway

    log : Log
    log = Owed goaway ∷ Violated code ∷ a.log

    flip : (b : Bool) → not b ≡ true → b ≡ false
    flip true h = absurd cc
    flip false h = refl

    waits : List Waiting
    waits = filter stays a.waiting ++ last ∷ []

    given : (id : ℕ) → gone id log ≡ gone id a.log
    given id = gone-same id (Owed goaway) (Violated code ∷ a.log) refl ∙ gone-same id (Violated code) a.log refl

    known : (f : Frame) → Known a.log f → Known log f
    known f k = known-more (Owed goaway) (Violated code ∷ a.log) f (known-more (Violated code) a.log f k)

    none : (id : ℕ) → 0 < id → (id == 0) ≡ true → (P : Type 0) → P
    none id p e P = absurd (clash (id == 0) e (not-zero id p))

    finish : (id : ℕ) (h : Bool) (body : List Frame) → 0 < id → Stream id (values id log) h (gone id a.log) (filter stays a.waiting) [] body
        → Stream id (values id log) h (gone id log) waits [] body
    finish id h body p s = subst (λ g. Stream id (values id log) h g waits [] body) (sym (given id)) (record {
      good = s.good;
      place = subst (λ fs. Where (values id log) h (gone id a.log ++ fs) [] body) (sym (on-last id (filter stays a.waiting) last (zero-other id p))) s.place;
      fixed = λ r. tail-last (is_fixed_on id) (filter stays a.waiting) last refl (s.fixed r);
      dropped = λ r. any-last (is_free_piece id) (filter stays a.waiting) last refl (s.dropped r);
      let_go = λ r. refl;
    })

    by : (id : ℕ) → 0 < id → (body : List Frame) (b : Bool) → has_head id a.log ≡ b → On id a.log a.waiting a.held body → OnStream 0 id log waits []
    by id p body false e s = record {
      body = [];
      stream = subst (λ h. Stream id (values id log) h (gone id log) waits [] []) (sym e) (finish id false [] p (record {
        good = record {
          shape = refl;
          bytes = record { rest = all_handed id log; whole = refl };
          all = λ x y. absurd cc;
          resets = λ x. refl;
          ends = λ x. refl;
          known = tt;
        };
        place = record { out = empty (subst (λ h. Where (values id a.log) h (gone id a.log ++ on id a.waiting) (held_on id a.held) body) e s.place); held = refl };
        fixed = λ r. tail-filter (is_fixed_on id) stays a.waiting (any-tail (is_fixed_on id) a.waiting
            (fixed (subst (λ h. Where (values id a.log) h (gone id a.log ++ on id a.waiting) (held_on id a.held) body) e s.place)));
        dropped = λ r. pieces (subst (λ h. Where (values id a.log) h (gone id a.log ++ on id a.waiting) (held_on id a.held) body) e s.place);
        let_go = λ r. refl;
      }));
      clean = λ x. none id p x (has_reset [] ≡ false);
    }
      where
        empty : Where (values id a.log) false (gone id a.log ++ on id a.waiting) (held_on id a.held) body → gone id a.log ++ on id (filter stays a.waiting) ≡ []
        empty w = let q = nothing (gone id a.log) (on id a.waiting) w.out in ap (λ fs. fs ++ on id (filter stays a.waiting)) q.0 ∙ none-on id stays a.waiting q.1

        pieces : Where (values id a.log) false (gone id a.log ++ on id a.waiting) (held_on id a.held) body → list_any (is_free_piece id) (filter stays a.waiting) ≡ false
        pieces w =
            any-filter (is_free_piece id) stays a.waiting (free-none id a.waiting (ap (list_any has_bytes) (nothing (gone id a.log) (on id a.waiting) w.out).1))

        fixed : Where (values id a.log) false (gone id a.log ++ on id a.waiting) (held_on id a.held) body → list_any (is_fixed_on id) a.waiting ≡ false
        fixed w = none-fixed id a.waiting (nothing (gone id a.log) (on id a.waiting) w.out).1
    by id p body true e s =
        let t : Stream id (values id a.log) true (gone id a.log) a.waiting a.held body = subst (λ h. Stream id (values id a.log) h (gone id a.log) a.waiting a.held body) e s in
        let d = drop-content id (values id a.log) true (gone id a.log) a.waiting a.held body stays (λ x. is_bare (frame_in x)) t (drops-fail id) (λ x y. refl) o.begun
        (values id log) refl refl (λ x. absurd (clash true refl x)) (inr refl) (λ x. x) known in
        record {
          body = d.body;
          stream = subst (λ h. Stream id (values id log) h (gone id log) waits [] d.body) (sym e)
              (finish id true d.body p (same-held id (values id log) true (gone id a.log) (filter stays a.waiting) (filter (λ x. is_bare (frame_in x)) a.held) [] d.body (sym d.new.place.held) d.new));
          clean = λ x. none id p x (has_reset d.body ≡ false);
        }
