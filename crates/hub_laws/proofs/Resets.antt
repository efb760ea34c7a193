-- A reset enters the queue: its stream's end goes before it.
use Rattle.std.proofs.Common.{sym, ◌∙◌, ap, subst, arith, inl, inr, ◌⊎◌, append-nil}
use Rattle.std.specs.Prelude.{ℕ, ◌≡◌, ◌<◌, Bool, true, false, not, ◌&&◌, ◌||◌, ◌==◌, List, [], ◌∷◌, ◌++◌, drop, map, filter, cond, refl, if◌then◌else◌}
use Rattle.std.specs.List.{list_any}
use Rattle.std.proofs.lemmas.Bool.{eqb-true, eq-eqb}
use Rattle.h2_frames.specs.declared.frame.Frame.{Frame}
use Rattle.h2_frames.specs.declared.frame.Frame.TheVariants as frame
use Rattle.h2_model.specs.Log.{is_empty, stream_of}
use Rattle.h2_model.specs.Queue.{Waiting, all_placed, entered, fresh, goes_last, has_bytes, is_ack, is_block, is_data, is_free, is_free_of, is_reset_frame, placed, stays_behind, with_end_placed, with_place}
use Rattle.h2_laws_log.proofs.Sounds.{fresh-left}
use Rattle.hub_laws.specs.Outgoing.{are_ends, is_body, is_content, is_finish, is_sent_on}
use Rattle.hub_laws.proofs.Courses.{both, clash, finish-stays, has_reset, neither}
use Rattle.hub_laws.proofs.Queues.{StaysLast, any-filter, any-placed, any-tail, behind-last, is_begun, is_fixed_on, is_spent, on, on-whole, placed-apart, placed-last, sent-stream, tail-filter, tail-placed, turn-behind}

abbrev pub is_nil : List Frame → Bool
is_nil [] = true
is_nil (f ∷ fs) = false

-- nothing comes behind END_STREAM
abbrev pub ends_last : List Frame → Bool
ends_last [] = true
ends_last (f ∷ fs) = if is_finish f then is_nil fs else ends_last fs

nil-is : (fs : List Frame) → is_nil fs ≡ true → fs ≡ []
nil-is [] h = refl
nil-is (f ∷ fs) h = absurd cc

pub body-ends : (fs : List Frame) → is_body fs ≡ true → has_reset fs ≡ false → ends_last fs ≡ true
body-ends [] h r = refl
body-ends (f ∷ fs) h r =
    let q = neither (is_reset_frame f) (has_reset fs) r in by (is_content f) refl h (λ x. body-ends fs x q.1) q.1
  where
    not-finish : (f : Frame) → is_content f ≡ true → is_finish f ≡ false
    not-finish (frame.Data id bytes last size) h = bits last (is_empty bytes) h
      where
        bits : (l e : Bool) → (not l && not e) ≡ true → (l && e) ≡ false
        bits true e h = absurd cc
        bits false e h = refl
    not-finish f h = refl

    ends : (fs : List Frame) → are_ends (f ∷ fs) ≡ true → has_reset fs ≡ false → (if is_finish f then is_nil fs else ends_last fs) ≡ true
    ends [] h r = same (is_finish f)
      where
        same : (b : Bool) → (if b then true else true) ≡ true
        same true = refl
        same false = refl
    ends (y ∷ []) h r = absurd (clash (is_reset_frame y) (both (is_finish f) (is_reset_frame y) h).1 (neither (is_reset_frame y) false r).0)
    ends (y ∷ z ∷ more) h r = absurd cc

    by : (b : Bool) → is_content f ≡ b → (if b then is_body fs else are_ends (f ∷ fs)) ≡ true → (is_body fs ≡ true → ends_last fs ≡ true) → has_reset fs ≡ false
        → (if is_finish f then is_nil fs else ends_last fs) ≡ true
    by true c h rest r = ap (λ b. if b then is_nil fs else ends_last fs) (not-finish f c) ∙ rest h
    by false c h rest r = ends fs h r

pub ends-behind : (xs ys : List Frame) → ends_last (xs ++ ys) ≡ true → ends_last ys ≡ true
ends-behind [] ys h = h
ends-behind (f ∷ xs) ys h = by (is_finish f) h (λ x. ends-behind xs ys x)
  where
    nil : (xs : List Frame) → is_nil (xs ++ ys) ≡ true → ends_last ys ≡ true
    nil [] h = subst (λ fs. ends_last fs ≡ true) (sym (nil-is ys h)) refl
    nil (x ∷ xs) h = absurd cc

    by : (b : Bool) → (if b then is_nil (xs ++ ys) else ends_last (xs ++ ys)) ≡ true → (ends_last (xs ++ ys) ≡ true → ends_last ys ≡ true) → ends_last ys ≡ true
    by true h rest = nil xs h
    by false h rest = rest h

-- The end of a stream among those that wait

pub free-sent : (id : ℕ) (w : Waiting) → is_free_of id w ≡ true → is_sent_on id w.frame ≡ true
free-sent id w h = by w.frame (both (is_data w.frame && not w.fixed) (stream_of w.frame == id) h)
  where
    by : (f : Frame) → ((is_data f && not w.fixed) ≡ true) × ((stream_of f == id) ≡ true) → is_sent_on id f ≡ true
    by (frame.Data n bytes last size) p = p.1
    by (frame.Headers n block last ends) p = absurd (no p.0)
      where
        no : false ≡ true → ⊥
        no e = absurd cc
    by (frame.Priority n) p = p.1
    by (frame.Reset n code) p = p.1
    by (frame.Settings list) p = p.1
    by frame.SettingsAck p = p.1
    by (frame.Push n) p = p.1
    by (frame.Ping ack bytes) p = p.1
    by (frame.GoAway last code) p = p.1
    by (frame.Window n k) p = absurd (no p.0)
      where
        no : false ≡ true → ⊥
        no e = absurd cc
    by (frame.Continuation n block ends) p = p.1
    by (frame.Unknown kind) p = p.1

pub none-on : (id : ℕ) (keep : Waiting → Bool) (queue : List Waiting) → on id queue ≡ [] → on id (filter keep queue) ≡ []
none-on id keep [] h = refl
none-on id keep (w ∷ queue) h = by (is_sent_on id w.frame) refl h (λ x. none-on id keep queue x)
  where
    by : (s : Bool) → is_sent_on id w.frame ≡ s → cond s (w.frame ∷ on id queue) (on id queue) ≡ [] → (on id queue ≡ [] → on id (filter keep queue) ≡ [])
        → on id (cond (keep w) (w ∷ filter keep queue) (filter keep queue)) ≡ []
    by true s h rest = absurd cc
    by false s h rest = each (keep w)
      where
        each : (b : Bool) → on id (cond b (w ∷ filter keep queue) (filter keep queue)) ≡ []
        each true = ap (λ b. cond b (w.frame ∷ on id (filter keep queue)) (on id (filter keep queue))) s ∙ rest h
        each false = rest h

none-free : (id : ℕ) (queue : List Waiting) → on id queue ≡ [] → filter (is_free_of id) queue ≡ []
none-free id [] h = refl
none-free id (w ∷ queue) h = by (is_free_of id w) (is_sent_on id w.frame) refl refl h (λ x. none-free id queue x)
  where
    by : (f s : Bool) → is_free_of id w ≡ f → is_sent_on id w.frame ≡ s → cond s (w.frame ∷ on id queue) (on id queue) ≡ []
        → (on id queue ≡ [] → filter (is_free_of id) queue ≡ []) → cond f (w ∷ filter (is_free_of id) queue) (filter (is_free_of id) queue) ≡ []
    by f true e s h rest = absurd cc
    by true false e s h rest = absurd (clash (is_sent_on id w.frame) (free-sent id w e) s)
    by false false e s h rest = rest h

record One (xs : List Waiting) : Type 0 where
  one : Waiting
  is : xs ≡ one ∷ []

-- a waiting piece that is free, and no end
abbrev pub is_loose : ℕ → Waiting → Bool
is_loose id w = is_free_of id w && not (is_finish w.frame)

record Split (id : ℕ) (queue : List Waiting) : Type 0 where
  same : on id queue ≡ on id (filter (λ w. not (is_free_of id w)) queue) ++ map (λ w. w.frame) (filter (is_free_of id) queue)
  few : (filter (is_free_of id) queue ≡ []) ⊎ One (filter (is_free_of id) queue)

split : (id : ℕ) (queue : List Waiting) → ends_last (on id queue) ≡ true → list_any (is_loose id) queue ≡ false → Split id queue
split id [] h l = record { same = refl; few = inl refl }
split id (w ∷ queue) h l =
    let q = neither (is_loose id w) (list_any (is_loose id) queue) l in
    by (is_free_of id w) (is_sent_on id w.frame) refl refl h q.0 (λ x. split id queue x q.1)
  where
    keep : Waiting → Bool
    keep v = not (is_free_of id v)

    free : List Waiting
    free = filter (is_free_of id) queue

    finish : is_free_of id w ≡ true → is_loose id w ≡ false → is_finish w.frame ≡ true
    finish e q = bits (is_free_of id w) (is_finish w.frame) e q
      where
        bits : (a b : Bool) → a ≡ true → (a && not b) ≡ false → b ≡ true
        bits true true e q = refl
        bits true false e q = absurd cc
        bits false b e q = absurd cc

    last : is_finish w.frame ≡ true → (if is_finish w.frame then is_nil (on id queue) else ends_last (on id queue)) ≡ true → on id queue ≡ []
    last e h = nil-is (on id queue) (sym (ap (λ b. if b then is_nil (on id queue) else ends_last (on id queue)) e) ∙ h)

    further : (b : Bool) → (if b then is_nil (on id queue) else ends_last (on id queue)) ≡ true → ends_last (on id queue) ≡ true
    further true h = subst (λ fs. ends_last fs ≡ true) (sym (nil-is (on id queue) h)) refl
    further false h = h

    by : (f s : Bool) → is_free_of id w ≡ f → is_sent_on id w.frame ≡ s → ends_last (cond s (w.frame ∷ on id queue) (on id queue)) ≡ true → is_loose id w ≡ false
        → (ends_last (on id queue) ≡ true → Split id queue) → Split id (w ∷ queue)
    by true false e s h q rest = absurd (clash (is_sent_on id w.frame) (free-sent id w e) s)
    by true true e s h q rest =
        let none : on id queue ≡ [] = last (finish e q) h in
        let one : filter (is_free_of id) (w ∷ queue) ≡ w ∷ [] =
        ap (λ b. cond b (w ∷ free) free) e ∙ ap (λ ws. w ∷ ws) (none-free id queue none) in
        record {
          same = ap (λ b. cond b (w.frame ∷ on id queue) (on id queue)) s ∙ ap (λ fs. w.frame ∷ fs) none
              ∙ sym (ap (λ fs. fs ++ map (λ (v : Waiting). v.frame) (filter (is_free_of id) (w ∷ queue)))
              (ap (λ b. on id (cond (not b) (w ∷ filter keep queue) (filter keep queue))) e ∙ none-on id keep queue none)
              ∙ ap (map (λ (v : Waiting). v.frame)) one);
          few = inr (record { one = w; is = one });
        }
    by false s e f h q rest =
        let r = rest (onward s h) in
        record {
          same = ap (λ fs. cond (is_sent_on id w.frame) (w.frame ∷ fs) fs) r.same ∙ spread (is_sent_on id w.frame)
              ∙ sym (ap (λ b. on id (cond (not b) (w ∷ filter keep queue) (filter keep queue)) ++ map (λ (v : Waiting). v.frame) (cond b (w ∷ free) free)) e);
          few = subst (λ (ws : List Waiting). (ws ≡ []) ⊎ One ws) (sym (ap (λ b. cond b (w ∷ free) free) e)) r.few;
        }
      where
        onward : (s : Bool) → ends_last (cond s (w.frame ∷ on id queue) (on id queue)) ≡ true → ends_last (on id queue) ≡ true
        onward true h = further (is_finish w.frame) h
        onward false h = h

        spread : (b : Bool) → cond b (w.frame ∷ (on id (filter keep queue) ++ map (λ (v : Waiting). v.frame) free)) (on id (filter keep queue) ++ map (λ (v : Waiting). v.frame) free)
            ≡ cond b (w.frame ∷ on id (filter keep queue)) (on id (filter keep queue)) ++ map (λ (v : Waiting). v.frame) free
        spread true = refl
        spread false = refl

-- an end that keeps its place is passed by none of its stream
quiet : (id : ℕ) (x : Waiting) (queue : List Waiting) → 0 < id → stream_of x.frame ≡ id → list_any (stays_behind x.frame) queue ≡ false
    → list_any (is_free_of id) queue ≡ false → list_any (is_fixed_on id) queue ≡ false → has_reset (on id queue) ≡ false → on id queue ≡ []
quiet id x [] p e b f k r = refl
quiet id x (w ∷ queue) p e b f k r =
    let b1 = neither (stays_behind x.frame w) (list_any (stays_behind x.frame) queue) b in
    let f1 = neither (is_free_of id w) (list_any (is_free_of id) queue) f in
    let k1 = neither (is_fixed_on id w) (list_any (is_fixed_on id) queue) k in
    by (is_sent_on id w.frame) refl b1.0 f1.0 k1.0 r (λ y. quiet id x queue p e b1.1 f1.1 k1.1 y)
  where
    not-zero : (0 == id) ≡ true → ⊥
    not-zero h = let z : 0 ≡ id = eqb-true 0 id h in beyond (subst (λ n. 0 < n) (sym z) p)
      where
        beyond : 0 < 0 → ⊥
        beyond h = omega arith

    never : (f : Frame) (fixed : Bool) → is_sent_on id f ≡ true
        → ((is_block x.frame && (is_block f || is_ack f)) || ((is_block x.frame || is_reset_frame x.frame || is_block f) && (stream_of x.frame == stream_of f))) ≡ false
        → ((is_data f && not fixed) && (stream_of f == id)) ≡ false → (is_data f && fixed && (stream_of f == id)) ≡ false → is_reset_frame f ≡ false → ⊥
    never (frame.Data n bytes last size) fixed s b f k r = bits fixed (n == id) s f k
      where
        bits : (x s : Bool) → s ≡ true → (not x && s) ≡ false → (x && s) ≡ false → ⊥
        bits true true s f k = absurd cc
        bits true false s f k = absurd cc
        bits false true s f k = absurd cc
        bits false false s f k = absurd cc
    never (frame.Headers n block last ends) fixed s b f k r =
        bits (is_block x.frame) (is_reset_frame x.frame) (stream_of x.frame == n) (eq-eqb (stream_of x.frame) n (e ∙ sym (eqb-true n id s))) b
      where
        bits : (h r s : Bool) → s ≡ true → ((h && true) || ((h || r || true) && s)) ≡ false → ⊥
        bits true r s e b = absurd cc
        bits false true s e b = clash s e b
        bits false false s e b = clash s e b
    never (frame.Reset n code) fixed s b f k r = absurd cc
    never (frame.Window n m) fixed s b f k r = absurd cc
    never f fixed s b g k r = not-zero s

    by : (s : Bool) → is_sent_on id w.frame ≡ s → stays_behind x.frame w ≡ false → is_free_of id w ≡ false → is_fixed_on id w ≡ false
        → has_reset (cond s (w.frame ∷ on id queue) (on id queue)) ≡ false → (has_reset (on id queue) ≡ false → on id queue ≡ [])
        → cond s (w.frame ∷ on id queue) (on id queue) ≡ []
    by true s b f k r rest = absurd (never w.frame w.fixed s b f k (neither (is_reset_frame w.frame) (has_reset (on id queue)) r).0)
    by false s b f k r rest = rest r

reset-later : (id : ℕ) (w : Waiting) (queue : List Waiting) → has_reset (on id (w ∷ queue)) ≡ false → has_reset (on id queue) ≡ false
reset-later id w queue h = by (is_sent_on id w.frame) h
  where
    by : (s : Bool) → has_reset (cond s (w.frame ∷ on id queue) (on id queue)) ≡ false → has_reset (on id queue) ≡ false
    by true h = (neither (is_reset_frame w.frame) (has_reset (on id queue)) h).1
    by false h = h

end-stays : (id : ℕ) (x : Waiting) (queue : List Waiting) → 0 < id → stream_of x.frame ≡ id
    → list_any (is_free_of id) queue ≡ false → list_any (is_fixed_on id) (drop 1 queue) ≡ false → has_reset (on id queue) ≡ false → StaysLast id x queue
end-stays id x [] p e f k r = tt
end-stays id x (w ∷ queue) p e f k r =
    let f1 = neither (is_free_of id w) (list_any (is_free_of id) queue) f in
    ((λ t. first t f1.0 (rest f1.1 t)), end-stays id x queue p e f1.1 (any-tail (is_fixed_on id) queue k) (reset-later id w queue r))
  where
    parts : (goes_last x || not (is_free w) || list_any (stays_behind x.frame) (w ∷ queue)) ≡ false
        → (not (is_free w) ≡ false) × (list_any (stays_behind x.frame) (w ∷ queue) ≡ false)
    parts t =
        let a = neither (goes_last x || not (is_free w)) (list_any (stays_behind x.frame) (w ∷ queue)) t in ((neither (goes_last x) (not (is_free w)) a.0).1, a.1)

    rest : list_any (is_free_of id) queue ≡ false → (goes_last x || not (is_free w) || list_any (stays_behind x.frame) (w ∷ queue)) ≡ false → on id queue ≡ []
    rest f t =
        quiet id x queue p e (neither (stays_behind x.frame w) (list_any (stays_behind x.frame) queue) (parts t).1).1 f k (reset-later id w queue r)

    first : (goes_last x || not (is_free w) || list_any (stays_behind x.frame) (w ∷ queue)) ≡ false → is_free_of id w ≡ false → on id queue ≡ []
        → on id (w ∷ queue) ≡ []
    first t f none = ap (λ b. cond b (w.frame ∷ on id queue) (on id queue)) (unsent (is_sent_on id w.frame) refl) ∙ none
      where
        free : is_free w ≡ true
        free = flip (is_free w) (parts t).0
          where
            flip : (b : Bool) → not b ≡ false → b ≡ true
            flip true h = refl
            flip false h = absurd cc

        unsent : (b : Bool) → is_sent_on id w.frame ≡ b → is_sent_on id w.frame ≡ false
        unsent true s = absurd (clash (is_free_of id w) (ap (λ b. b && (stream_of w.frame == id)) free ∙ eq-eqb (stream_of w.frame) id (sent-stream id w.frame s)) f)
        unsent false s = s

-- The reset itself

pub record MayEnter (id : ℕ) (queue : List Waiting) : Type 0 where
  pub ends : ends_last (on id queue) ≡ true
  pub loose : list_any (is_loose id) queue ≡ false
  pub fixed : list_any (is_fixed_on id) (drop 1 queue) ≡ false
  pub reset : has_reset (on id queue) ≡ false

free-gone : (id : ℕ) (queue : List Waiting) → list_any (is_free_of id) (filter (λ w. not (is_free_of id w)) queue) ≡ false
free-gone id [] = refl
free-gone id (w ∷ queue) = by (is_free_of id w) refl (free-gone id queue)
  where
    rest : List Waiting
    rest = filter (λ v. not (is_free_of id v)) queue

    by : (b : Bool) → is_free_of id w ≡ b → list_any (is_free_of id) rest ≡ false → list_any (is_free_of id) (cond (not b) (w ∷ rest) rest) ≡ false
    by true e r = r
    by false e r = ap (λ b. b || list_any (is_free_of id) rest) e ∙ r

few-resets : (id : ℕ) (keep : Waiting → Bool) (queue : List Waiting) → has_reset (on id queue) ≡ false → has_reset (on id (filter keep queue)) ≡ false
few-resets id keep [] h = refl
few-resets id keep (w ∷ queue) h = by (keep w) (is_sent_on id w.frame) refl h (few-resets id keep queue (reset-later id w queue h))
  where
    rest : List Waiting
    rest = filter keep queue

    by : (k s : Bool) → is_sent_on id w.frame ≡ s → has_reset (cond s (w.frame ∷ on id queue) (on id queue)) ≡ false → has_reset (on id rest) ≡ false
        → has_reset (on id (cond k (w ∷ rest) rest)) ≡ false
    by false s e h r = r
    by true true e h r =
        ap (λ b. has_reset (cond b (w.frame ∷ on id rest) (on id rest))) e
        ∙ ap (λ b. b || has_reset (on id rest)) (neither (is_reset_frame w.frame) (has_reset (on id queue)) h).0 ∙ r
    by true false e h r = ap (λ b. has_reset (cond b (w.frame ∷ on id rest) (on id rest))) e ∙ r

placed-end : (id : ℕ) (queue : List Waiting) → 0 < id → MayEnter id queue → on id (with_end_placed id queue) ≡ on id queue
placed-end id queue p m = by (split id queue m.ends m.loose)
  where
    rest : List Waiting
    rest = filter (λ w. not (is_free_of id w)) queue

    free : List Waiting
    free = filter (is_free_of id) queue

    free-stream : (w : Waiting) → is_free_of id w ≡ true → stream_of w.frame ≡ id
    free-stream w h = eqb-true (stream_of w.frame) id (both (is_free w) (stream_of w.frame == id) h).1

    first-free : (queue : List Waiting) (w : Waiting) → filter (is_free_of id) queue ≡ w ∷ [] → is_free_of id w ≡ true
    first-free [] w h = absurd cc
    first-free (v ∷ queue) w h = each (is_free_of id v) refl h (λ x. first-free queue w x)
      where
        head : {x y : Waiting} {xs ys : List Waiting} → x ∷ xs ≡ y ∷ ys → x ≡ y
        head e = cc

        each : (b : Bool) → is_free_of id v ≡ b → cond b (v ∷ filter (is_free_of id) queue) (filter (is_free_of id) queue) ≡ w ∷ []
            → (filter (is_free_of id) queue ≡ w ∷ [] → is_free_of id w ≡ true) → is_free_of id w ≡ true
        each true e h r = subst (λ u. is_free_of id u ≡ true) (head h) e
        each false e h r = r h

    by : Split id queue → on id (with_end_placed id queue) ≡ on id queue
    by s = few s.few
      where
        few : (free ≡ []) ⊎ One free → on id (with_end_placed id queue) ≡ on id queue
        few (inl e) =
            ap (λ ws. on id (all_placed (map with_place ws) rest)) e ∙ sym (append-nil (on id rest)) ∙ ap (λ ws. on id rest ++ map (λ (w : Waiting). w.frame) ws) (sym e) ∙ sym s.same
        few (inr o) =
            let x : Waiting = with_place o.one in
            let f : is_free_of id o.one ≡ true = first-free queue o.one o.is in
            ap (λ ws. on id (all_placed (map with_place ws) rest)) o.is
            ∙ placed-last id x rest (free-sent id o.one f)
            (end-stays id x rest p (free-stream o.one f) (free-gone id queue)
            (tail-filter (is_fixed_on id) (λ w. not (is_free_of id w)) queue m.fixed) (few-resets id (λ w. not (is_free_of id w)) queue m.reset))
            ∙ ap (λ ws. on id rest ++ map (λ (w : Waiting). w.frame) ws) (sym o.is) ∙ sym s.same

pub reset-enters : (id code : ℕ) (queue : List Waiting) → 0 < id → MayEnter id queue
    → on id (entered (frame.Reset id code) queue) ≡ on id queue ++ frame.Reset id code ∷ []
reset-enters id code queue p m =
    let x : Waiting = fresh (frame.Reset id code) in
    placed-last id x (with_end_placed id queue) (eq-eqb id id refl) (behind-last id x (with_end_placed id queue) (turn-behind id (frame.Reset id code) refl refl))
    ∙ ap (λ fs. fs ++ frame.Reset id code ∷ []) (placed-end id queue p m)

-- nothing changes for other streams

all-apart : (j : ℕ) (xs queue : List Waiting) → list_any (λ w. is_sent_on j w.frame) xs ≡ false → on j (all_placed xs queue) ≡ on j queue
all-apart j [] queue h = refl
all-apart j (x ∷ xs) queue h =
    let q = neither (is_sent_on j x.frame) (list_any (λ w. is_sent_on j w.frame) xs) h in
    all-apart j xs (placed x queue) q.1 ∙ placed-apart j x queue q.0

other-sent : (j id : ℕ) (f : Frame) → (j == id) ≡ false → stream_of f ≡ id → is_sent_on j f ≡ false
other-sent j id f n e = by (is_sent_on j f) refl
  where
    by : (b : Bool) → is_sent_on j f ≡ b → is_sent_on j f ≡ false
    by true s = absurd (clash (j == id) (eq-eqb j id (sym (sent-stream j f s) ∙ e)) n)
    by false s = s

pub reset-apart : (j id code : ℕ) (queue : List Waiting) → (j == id) ≡ false → on j (entered (frame.Reset id code) queue) ≡ on j queue
reset-apart j id code queue n =
    placed-apart j (fresh (frame.Reset id code)) (with_end_placed id queue) (other-sent j id (frame.Reset id code) n refl)
    ∙ all-apart j (map with_place (filter (is_free_of id) queue)) (filter (λ w. not (is_free_of id w)) queue) (none queue)
    ∙ on-whole j (λ w. not (is_free_of id w)) queue keeps
  where
    stream : (w : Waiting) → is_free_of id w ≡ true → stream_of w.frame ≡ id
    stream w h = eqb-true (stream_of w.frame) id (both (is_free w) (stream_of w.frame == id) h).1

    keeps : (w : Waiting) → is_sent_on j w.frame ≡ true → not (is_free_of id w) ≡ true
    keeps w s = by (is_free_of id w) refl
      where
        by : (b : Bool) → is_free_of id w ≡ b → not b ≡ true
        by true e = absurd (clash (is_sent_on j w.frame) s (other-sent j id w.frame n (stream w e)))
        by false e = refl

    none : (queue : List Waiting) → list_any (λ w. is_sent_on j w.frame) (map with_place (filter (is_free_of id) queue)) ≡ false
    none [] = refl
    none (w ∷ queue) = by (is_free_of id w) refl (none queue)
      where
        rest : List Waiting
        rest = filter (is_free_of id) queue

        by : (b : Bool) → is_free_of id w ≡ b → list_any (λ v. is_sent_on j v.frame) (map with_place rest) ≡ false
            → list_any (λ v. is_sent_on j v.frame) (map with_place (cond b (w ∷ rest) rest)) ≡ false
        by true e r = ap (λ b. b || list_any (λ v. is_sent_on j v.frame) (map with_place rest)) (other-sent j id w.frame n (stream w e)) ∙ r
        by false e r = r

-- What holds of all that wait, and of all but the first

pub any-all : (p : Waiting → Bool) (xs queue : List Waiting) → list_any p xs ≡ false → list_any p queue ≡ false → list_any p (all_placed xs queue) ≡ false
any-all p [] queue h t = t
any-all p (x ∷ xs) queue h t = let q = neither (p x) (list_any p xs) h in any-all p xs (placed x queue) q.1 (any-placed p x queue q.0 t)

tail-all : (p : Waiting → Bool) (xs queue : List Waiting) → ((w : Waiting) → is_free w ≡ true → p w ≡ false) → list_any p xs ≡ false
    → list_any p (drop 1 queue) ≡ false → list_any p (drop 1 (all_placed xs queue)) ≡ false
tail-all p [] queue f h t = t
tail-all p (x ∷ xs) queue f h t = let q = neither (p x) (list_any p xs) h in tail-all p xs (placed x queue) f q.1 (tail-placed p x queue f q.0 t)

pub spent-enters : (f : Frame) (queue : List Waiting) → list_any is_spent queue ≡ false → list_any is_spent (entered f queue) ≡ false
spent-enters f queue h = any-placed is_spent (fresh f) _ (flip (is_spent (fresh f)) (fresh-left f)) (by (is_reset_frame f))
  where
    flip : (b : Bool) → not b ≡ true → b ≡ false
    flip true h = absurd cc
    flip false h = refl

    placed-ones : (queue : List Waiting) → list_any is_spent queue ≡ false → list_any is_spent (map with_place (filter (is_free_of (stream_of f)) queue)) ≡ false
    placed-ones [] h = refl
    placed-ones (w ∷ queue) h =
        let q = neither (is_spent w) (list_any is_spent queue) h in each (is_free_of (stream_of f) w) q.0 (placed-ones queue q.1)
      where
        rest : List Waiting
        rest = filter (is_free_of (stream_of f)) queue

        each : (b : Bool) → is_spent w ≡ false → list_any is_spent (map with_place rest) ≡ false → list_any is_spent (map with_place (cond b (w ∷ rest) rest)) ≡ false
        each true q r = ap (λ b. b || list_any is_spent (map with_place rest)) q ∙ r
        each false q r = r

    by : (b : Bool) → list_any is_spent (if b then with_end_placed (stream_of f) queue else queue) ≡ false
    by true = any-all is_spent (map with_place (filter (is_free_of (stream_of f)) queue)) _ (placed-ones queue h) (any-filter is_spent _ queue h)
    by false = h

begun-free : (w : Waiting) → is_free w ≡ true → is_begun w ≡ false
begun-free w h = bits (is_data w.frame) w.fixed (has_bytes w.frame) h
  where
    bits : (d x b : Bool) → (d && not x) ≡ true → (d && x && b) ≡ false
    bits true true b h = absurd cc
    bits true false b h = refl
    bits false x b h = refl

fixed-free : (j : ℕ) (w : Waiting) → is_free w ≡ true → is_fixed_on j w ≡ false
fixed-free j w h = bits (is_data w.frame) w.fixed (stream_of w.frame == j) h
  where
    bits : (d x b : Bool) → (d && not x) ≡ true → (d && x && b) ≡ false
    bits true true b h = absurd cc
    bits true false b h = refl
    bits false x b h = refl

fresh-loose : (f : Frame) (b : Bool) → (is_data f && false && b) ≡ false
fresh-loose (frame.Data id bytes last size) b = refl
fresh-loose f b = refl

-- of a frame that is no reset
pub begun-enters : (f : Frame) (queue : List Waiting) → is_reset_frame f ≡ false → list_any is_begun (drop 1 queue) ≡ false
    → list_any is_begun (drop 1 (entered f queue)) ≡ false
begun-enters f queue r h =
    ap (λ b. list_any is_begun (drop 1 (placed (fresh f) (if b then with_end_placed (stream_of f) queue else queue)))) r
    ∙ tail-placed is_begun (fresh f) queue begun-free (fresh-loose f (has_bytes f)) h

pub fixed-enters : (j : ℕ) (f : Frame) (queue : List Waiting) → is_reset_frame f ≡ false → list_any (is_fixed_on j) (drop 1 queue) ≡ false
    → list_any (is_fixed_on j) (drop 1 (entered f queue)) ≡ false
fixed-enters j f queue r h =
    ap (λ b. list_any (is_fixed_on j) (drop 1 (placed (fresh f) (if b then with_end_placed (stream_of f) queue else queue)))) r
    ∙ tail-placed (is_fixed_on j) (fresh f) queue (fixed-free j) (fresh-loose f (stream_of f == j)) h

-- and of a reset
pub begun-reset : (id code : ℕ) (queue : List Waiting) → list_any (is_loose id) queue ≡ false → list_any is_begun (drop 1 queue) ≡ false
    → list_any is_begun (drop 1 (entered (frame.Reset id code) queue)) ≡ false
begun-reset id code queue l h =
    tail-placed is_begun (fresh (frame.Reset id code)) (with_end_placed id queue) begun-free refl
    (tail-all is_begun (map with_place (filter (is_free_of id) queue)) (filter (λ w. not (is_free_of id w)) queue) begun-free (none queue l)
    (tail-filter is_begun (λ w. not (is_free_of id w)) queue h))
  where
    bare : (w : Waiting) → is_free_of id w ≡ true → is_loose id w ≡ false → is_begun (with_place w) ≡ false
    bare w f l = bits (is_free_of id w) (is_finish w.frame) f l (λ e. none-there (has_bytes w.frame) (finish-stays w.frame e))
      where
        none-there : (b : Bool) → not b ≡ true → (is_data w.frame && true && b) ≡ false
        none-there true h = absurd cc
        none-there false h = nothing (is_data w.frame)
          where
            nothing : (d : Bool) → (d && true && false) ≡ false
            nothing true = refl
            nothing false = refl

        bits : (a b : Bool) → a ≡ true → (a && not b) ≡ false → (b ≡ true → is_begun (with_place w) ≡ false) → is_begun (with_place w) ≡ false
        bits true true f l rest = rest refl
        bits true false f l rest = absurd cc
        bits false b f l rest = absurd cc

    none : (queue : List Waiting) → list_any (is_loose id) queue ≡ false → list_any is_begun (map with_place (filter (is_free_of id) queue)) ≡ false
    none [] l = refl
    none (w ∷ queue) l = let q = neither (is_loose id w) (list_any (is_loose id) queue) l in by (is_free_of id w) refl q.0 (none queue q.1)
      where
        rest : List Waiting
        rest = filter (is_free_of id) queue

        by : (b : Bool) → is_free_of id w ≡ b → is_loose id w ≡ false → list_any is_begun (map with_place rest) ≡ false
            → list_any is_begun (map with_place (cond b (w ∷ rest) rest)) ≡ false
        by true e q r = ap (λ b. b || list_any is_begun (map with_place rest)) (bare w e q) ∙ r
        by false e q r = r

pub fixed-reset : (j id code : ℕ) (queue : List Waiting) → (j == id) ≡ false → list_any (is_fixed_on j) (drop 1 queue) ≡ false
    → list_any (is_fixed_on j) (drop 1 (entered (frame.Reset id code) queue)) ≡ false
fixed-reset j id code queue n h =
    tail-placed (is_fixed_on j) (fresh (frame.Reset id code)) (with_end_placed id queue) (fixed-free j) refl
    (tail-all (is_fixed_on j) (map with_place (filter (is_free_of id) queue)) (filter (λ w. not (is_free_of id w)) queue) (fixed-free j) (none queue)
    (tail-filter (is_fixed_on j) (λ w. not (is_free_of id w)) queue h))
  where
    other : (w : Waiting) → is_free_of id w ≡ true → is_fixed_on j (with_place w) ≡ false
    other w f =
        let e : stream_of w.frame ≡ id = eqb-true (stream_of w.frame) id (both (is_free w) (stream_of w.frame == id) f).1 in
        no (is_data w.frame) (stream_of w.frame == j) (ne (stream_of w.frame == j) refl e)
      where
        ne : (b : Bool) → (stream_of w.frame == j) ≡ b → stream_of w.frame ≡ id → (stream_of w.frame == j) ≡ false
        ne true s e = absurd (clash (j == id) (eq-eqb j id (sym (eqb-true (stream_of w.frame) j s) ∙ e)) n)
        ne false s e = s

        no : (d s : Bool) → s ≡ false → (d && true && s) ≡ false
        no true s e = e
        no false s e = refl

    none : (queue : List Waiting) → list_any (is_fixed_on j) (map with_place (filter (is_free_of id) queue)) ≡ false
    none [] = refl
    none (w ∷ queue) = by (is_free_of id w) refl (none queue)
      where
        rest : List Waiting
        rest = filter (is_free_of id) queue

        by : (b : Bool) → is_free_of id w ≡ b → list_any (is_fixed_on j) (map with_place rest) ≡ false
            → list_any (is_fixed_on j) (map with_place (cond b (w ∷ rest) rest)) ≡ false
        by true e r = ap (λ b. b || list_any (is_fixed_on j) (map with_place rest)) (other w e) ∙ r
        by false e r = r
