-- The frames of one stream among those that wait.
use Rattle.std.proofs.Common.{sym, ◌∙◌, ap, arith}
use Rattle.std.specs.Prelude.{ℕ, ◌-◌, ◌≡◌, ◌<◌, ◌≤◌, Bool, true, false, not, ◌&&◌, ◌||◌, ◌==◌, List, [], ◌∷◌, ◌++◌, length, drop, map, filter, cond, refl, if◌then◌else◌, nat_lt}
use Rattle.std.specs.List.{list_any}
use Rattle.std.proofs.lemmas.Bool.{eqb-true, eq-eqb, ltb-false}
use Rattle.h2_frames.specs.declared.frame.Frame.{Frame}
use Rattle.h2_model.specs.Calls.{is_window}
use Rattle.h2_model.specs.Log.{is_empty, stream_of}
use Rattle.h2_model.specs.Queue.{Waiting, behind, goes_last, has_bytes, is_ack, is_block, is_data, is_free, is_reset_frame, placed, stays_behind, whole_within}
use Rattle.hub_laws.specs.Outgoing.{is_sent_on}
use Rattle.hub_laws.proofs.Courses.{both, clash, is_bare, neither}

abbrev pub on : ℕ → List Waiting → List Frame
on id queue = filter (is_sent_on id) (map (λ w. w.frame) queue)

-- DATA that keeps its place: begun, or an end that a reset follows
abbrev pub is_fixed_on : ℕ → Waiting → Bool
is_fixed_on id w = is_data w.frame && w.fixed && (stream_of w.frame == id)

-- content that was begun
abbrev pub is_begun : Waiting → Bool
is_begun w = is_data w.frame && w.fixed && has_bytes w.frame

abbrev pub is_spent : Waiting → Bool
is_spent w = is_empty w.left

-- One more frame in the queue

pub placed-apart : (id : ℕ) (x : Waiting) (queue : List Waiting) → is_sent_on id x.frame ≡ false → on id (placed x queue) ≡ on id queue
placed-apart id x [] h = ap (λ b. cond b (x.frame ∷ []) []) h
placed-apart id x (w ∷ queue) h =
    by (goes_last x || not (is_free w) || list_any (stays_behind x.frame) (w ∷ queue)) (placed-apart id x queue h)
  where
    by : (b : Bool) → on id (placed x queue) ≡ on id queue → on id (if b then w ∷ placed x queue else x ∷ w ∷ queue) ≡ on id (w ∷ queue)
    by true rest = ap (λ fs. cond (is_sent_on id w.frame) (w.frame ∷ fs) fs) rest
    by false rest = ap (λ b. cond b (x.frame ∷ on id (w ∷ queue)) (on id (w ∷ queue))) h

-- where it is passed by none of its stream it comes last of them
abbrev pub StaysLast : ℕ → Waiting → List Waiting → Type 0
StaysLast id x [] = Unit {0}
StaysLast id x (w ∷ queue) =
    ((goes_last x || not (is_free w) || list_any (stays_behind x.frame) (w ∷ queue)) ≡ false → on id (w ∷ queue) ≡ []) × StaysLast id x queue

pub placed-last : (id : ℕ) (x : Waiting) (queue : List Waiting) → is_sent_on id x.frame ≡ true → StaysLast id x queue
    → on id (placed x queue) ≡ on id queue ++ x.frame ∷ []
placed-last id x [] h s = ap (λ b. cond b (x.frame ∷ []) []) h
placed-last id x (w ∷ queue) h s =
    by (goes_last x || not (is_free w) || list_any (stays_behind x.frame) (w ∷ queue)) refl (placed-last id x queue h s.1)
  where
    more : (b : Bool) → cond b (w.frame ∷ (on id queue ++ x.frame ∷ [])) (on id queue ++ x.frame ∷ []) ≡ cond b (w.frame ∷ on id queue) (on id queue) ++ x.frame ∷ []
    more true = refl
    more false = refl

    by : (b : Bool) → (goes_last x || not (is_free w) || list_any (stays_behind x.frame) (w ∷ queue)) ≡ b → on id (placed x queue) ≡ on id queue ++ x.frame ∷ []
        → on id (if b then w ∷ placed x queue else x ∷ w ∷ queue) ≡ on id (w ∷ queue) ++ x.frame ∷ []
    by true e rest = ap (λ fs. cond (is_sent_on id w.frame) (w.frame ∷ fs) fs) rest ∙ more (is_sent_on id w.frame)
    by false e rest =
        ap (λ b. cond b (x.frame ∷ on id (w ∷ queue)) (on id (w ∷ queue))) h
        ∙ ap (λ fs. x.frame ∷ fs) (s.0 e) ∙ ap (λ fs. fs ++ x.frame ∷ []) (sym (s.0 e))

pub sent-stream : (id : ℕ) (f : Frame) → is_sent_on id f ≡ true → stream_of f ≡ id
sent-stream id f h = eqb-true (stream_of f) id (both (not (is_window f)) (stream_of f == id) h).1

-- DATA that is free goes to the end
pub free-last : (id : ℕ) (x : Waiting) (queue : List Waiting) → goes_last x ≡ true → StaysLast id x queue
free-last id x [] g = tt
free-last id x (w ∷ queue) g = (
  λ e. absurd (clash (goes_last x || not (is_free w) || list_any (stays_behind x.frame) (w ∷ queue))
      (ap (λ b. b || not (is_free w) || list_any (stays_behind x.frame) (w ∷ queue)) g) e),
  free-last id x queue g,
)

-- a frame that stays behind all of its stream
behind-all : (id : ℕ) (f : Frame) (queue : List Waiting) → ((w : Waiting) → is_sent_on id w.frame ≡ true → stays_behind f w ≡ true)
    → list_any (stays_behind f) queue ≡ false → on id queue ≡ []
behind-all id f [] s h = refl
behind-all id f (w ∷ queue) s h =
    let p = neither (stays_behind f w) (list_any (stays_behind f) queue) h in by (is_sent_on id w.frame) refl p.0 (behind-all id f queue s p.1)
  where
    by : (b : Bool) → is_sent_on id w.frame ≡ b → stays_behind f w ≡ false → on id queue ≡ [] → cond b (w.frame ∷ on id queue) (on id queue) ≡ []
    by true e p rest = absurd (clash (stays_behind f w) (s w e) p)
    by false e p rest = rest

or_right : (a b : Bool) → (a || b) ≡ false → b ≡ false
or_right a b h = (neither a b h).1

pub behind-last : (id : ℕ) (x : Waiting) (queue : List Waiting) → ((w : Waiting) → is_sent_on id w.frame ≡ true → stays_behind x.frame w ≡ true)
    → StaysLast id x queue
behind-last id x [] s = tt
behind-last id x (w ∷ queue) s = (
  λ e. behind-all id x.frame (w ∷ queue) s (or_right (goes_last x || not (is_free w)) (list_any (stays_behind x.frame) (w ∷ queue)) e),
  behind-last id x queue s,
)

-- so do blocks and resets
pub turn-behind : (id : ℕ) (f : Frame) → (is_block f || is_reset_frame f) ≡ true → stream_of f ≡ id → (w : Waiting) → is_sent_on id w.frame ≡ true
    → stays_behind f w ≡ true
turn-behind id f t e w h = by (is_block f) (is_reset_frame f) (is_block w.frame) (is_ack w.frame) (stream_of f == stream_of w.frame) t same
  where
    same : (stream_of f == stream_of w.frame) ≡ true
    same = eq-eqb (stream_of f) (stream_of w.frame) (e ∙ sym (sent-stream id w.frame h))

    by : (b r v k s : Bool) → (b || r) ≡ true → s ≡ true → ((b && (v || k)) || ((b || r || v) && s)) ≡ true
    by true r true k s t e = refl
    by true r false true s t e = refl
    by true r false false s t e = e
    by false true v k s t e = e
    by false false v k s t e = absurd cc

-- what holds of all but the first

pub any-placed : (p : Waiting → Bool) (x : Waiting) (queue : List Waiting) → p x ≡ false → list_any p queue ≡ false → list_any p (placed x queue) ≡ false
any-placed p x [] h t = ap (λ b. b || false) h
any-placed p x (v ∷ more) h t =
    let q = neither (p v) (list_any p more) t in
    each (goes_last x || not (is_free v) || list_any (stays_behind x.frame) (v ∷ more)) q.0 (any-placed p x more h q.1)
  where
    each : (b : Bool) → p v ≡ false → list_any p (placed x more) ≡ false → list_any p (if b then v ∷ placed x more else x ∷ v ∷ more) ≡ false
    each true q rest = ap (λ b. b || list_any p (placed x more)) q ∙ rest
    each false q rest = ap (λ b. b || list_any p (v ∷ more)) h ∙ t

pub tail-placed : (p : Waiting → Bool) (x : Waiting) (queue : List Waiting) → ((w : Waiting) → is_free w ≡ true → p w ≡ false) → p x ≡ false
    → list_any p (drop 1 queue) ≡ false → list_any p (drop 1 (placed x queue)) ≡ false
tail-placed p x [] free h t = refl
tail-placed p x (w ∷ queue) free h t = by (goes_last x || not (is_free w) || list_any (stays_behind x.frame) (w ∷ queue)) refl
  where
    by : (b : Bool) → (goes_last x || not (is_free w) || list_any (stays_behind x.frame) (w ∷ queue)) ≡ b
        → list_any p (drop 1 (if b then w ∷ placed x queue else x ∷ w ∷ queue)) ≡ false
    by true e = any-placed p x queue h t
    by false e =
        let q : not (is_free w) ≡ false = or_right (goes_last x) (not (is_free w)) (neither (goes_last x || not (is_free w)) (list_any (stays_behind x.frame) (w ∷ queue)) e).0 in
        ap (λ b. b || list_any p queue) (free w (flip (is_free w) q)) ∙ t
      where
        flip : (b : Bool) → not b ≡ false → b ≡ true
        flip true h = refl
        flip false h = absurd cc

pub any-filter : (p keep : Waiting → Bool) (queue : List Waiting) → list_any p queue ≡ false → list_any p (filter keep queue) ≡ false
any-filter p keep [] h = refl
any-filter p keep (w ∷ queue) h = let q = neither (p w) (list_any p queue) h in by (keep w) q.0 (any-filter p keep queue q.1)
  where
    by : (b : Bool) → p w ≡ false → list_any p (filter keep queue) ≡ false → list_any p (cond b (w ∷ filter keep queue) (filter keep queue)) ≡ false
    by true q rest = ap (λ b. b || list_any p (filter keep queue)) q ∙ rest
    by false q rest = rest

pub any-tail : (p : Waiting → Bool) (queue : List Waiting) → list_any p queue ≡ false → list_any p (drop 1 queue) ≡ false
any-tail p [] h = refl
any-tail p (w ∷ queue) h = (neither (p w) (list_any p queue) h).1

pub tail-filter : (p keep : Waiting → Bool) (queue : List Waiting) → list_any p (drop 1 queue) ≡ false → list_any p (drop 1 (filter keep queue)) ≡ false
tail-filter p keep [] h = refl
tail-filter p keep (w ∷ queue) h = by (keep w)
  where
    all : list_any p (filter keep queue) ≡ false
    all = any-filter p keep queue h

    by : (b : Bool) → list_any p (drop 1 (cond b (w ∷ filter keep queue) (filter keep queue))) ≡ false
    by true = all
    by false = any-tail p (filter keep queue) all

-- Frames that are dropped

-- none of this stream
pub on-whole : (id : ℕ) (keep : Waiting → Bool) (queue : List Waiting) → ((w : Waiting) → is_sent_on id w.frame ≡ true → keep w ≡ true)
    → on id (filter keep queue) ≡ on id queue
on-whole id keep [] h = refl
on-whole id keep (w ∷ queue) h = by (keep w) (is_sent_on id w.frame) refl refl (on-whole id keep queue h)
  where
    by : (k s : Bool) → keep w ≡ k → is_sent_on id w.frame ≡ s → on id (filter keep queue) ≡ on id queue
        → on id (cond k (w ∷ filter keep queue) (filter keep queue)) ≡ on id (w ∷ queue)
    by true s e f rest = ap (λ fs. cond (is_sent_on id w.frame) (w.frame ∷ fs) fs) rest
    by false true e f rest = absurd (clash (keep w) (h w f) e)
    by false false e f rest = rest ∙ sym (ap (λ b. cond b (w.frame ∷ on id queue) (on id queue)) f)

-- from some place on all content
pub record Cut (old new : List Frame) : Type 0 where
  pub kept : List Frame
  pub lost : List Frame
  pub before : old ≡ kept ++ lost
  pub after : new ≡ kept ++ filter is_bare lost

-- all content, where none was begun
all-lost : (id : ℕ) (keep : Waiting → Bool) (queue : List Waiting)
    → ((w : Waiting) → is_sent_on id w.frame ≡ true → is_begun w ≡ false → keep w ≡ is_bare w.frame) → list_any is_begun queue ≡ false
    → on id (filter keep queue) ≡ filter is_bare (on id queue)
all-lost id keep [] h b = refl
all-lost id keep (w ∷ queue) h b =
    let q = neither (is_begun w) (list_any is_begun queue) b in by (is_sent_on id w.frame) (keep w) refl refl q.0 (all-lost id keep queue h q.1)
  where
    by : (s k : Bool) → is_sent_on id w.frame ≡ s → keep w ≡ k → is_begun w ≡ false → on id (filter keep queue) ≡ filter is_bare (on id queue)
        → on id (cond k (w ∷ filter keep queue) (filter keep queue)) ≡ filter is_bare (cond s (w.frame ∷ on id queue) (on id queue))
    by true true s k q rest =
        ap (λ b. cond b (w.frame ∷ on id (filter keep queue)) (on id (filter keep queue))) s ∙ ap (λ fs. w.frame ∷ fs) rest
        ∙ sym (ap (λ b. cond b (w.frame ∷ filter is_bare (on id queue)) (filter is_bare (on id queue))) (sym (h w s q) ∙ k))
    by true false s k q rest = rest ∙ sym (ap (λ b. cond b (w.frame ∷ filter is_bare (on id queue)) (filter is_bare (on id queue))) (sym (h w s q) ∙ k))
    by false true s k q rest = ap (λ b. cond b (w.frame ∷ on id (filter keep queue)) (on id (filter keep queue))) s ∙ rest
    by false false s k q rest = rest

pub on-cut : (id : ℕ) (keep : Waiting → Bool) (queue : List Waiting)
    → ((w : Waiting) → is_sent_on id w.frame ≡ true → is_begun w ≡ false → keep w ≡ is_bare w.frame)
    → ((w : Waiting) → keep w ≡ false → is_bare w.frame ≡ false)
    → list_any is_begun (drop 1 queue) ≡ false → Cut (on id queue) (on id (filter keep queue))
on-cut id keep [] h d b = record { kept = []; lost = []; before = refl; after = refl }
on-cut id keep (w ∷ queue) h d b = by (keep w) (is_sent_on id w.frame) refl refl
  where
    rest : on id (filter keep queue) ≡ filter is_bare (on id queue)
    rest = all-lost id keep queue h b

    by : (k s : Bool) → keep w ≡ k → is_sent_on id w.frame ≡ s
        → Cut (cond s (w.frame ∷ on id queue) (on id queue)) (on id (cond k (w ∷ filter keep queue) (filter keep queue)))
    by true true k s = record {
      kept = w.frame ∷ [];
      lost = on id queue;
      before = refl;
      after = ap (λ b. cond b (w.frame ∷ on id (filter keep queue)) (on id (filter keep queue))) s ∙ ap (λ fs. w.frame ∷ fs) rest;
    }
    by true false k s = record {
      kept = [];
      lost = on id queue;
      before = refl;
      after = ap (λ b. cond b (w.frame ∷ on id (filter keep queue)) (on id (filter keep queue))) s ∙ rest;
    }
    by false true k s = record {
      kept = [];
      lost = w.frame ∷ on id queue;
      before = refl;
      after = rest ∙ sym (ap (λ b. cond b (w.frame ∷ filter is_bare (on id queue)) (filter is_bare (on id queue))) (d w k));
    }
    by false false k s = record { kept = []; lost = on id queue; before = refl; after = rest }

-- Bytes that are given

pub given-on : (n : ℕ) (queue : List Waiting) → list_any is_spent queue ≡ false
    → whole_within n queue ++ map (λ w. w.frame) (behind n queue) ≡ map (λ w. w.frame) queue
given-on n [] h = refl
given-on n (w ∷ queue) h =
    let q = neither (is_spent w) (list_any is_spent queue) h in
    by (n == 0) (nat_lt n (length w.left)) refl refl q.0 (given-on (n - length w.left) queue q.1)
  where
    some : (xs : List ℕ) → is_empty xs ≡ false → 0 < length xs
    some [] h = absurd cc
    some (x ∷ xs) h = omega arith

    zero_there : n ≡ 0 → nat_lt n (length w.left) ≡ false → 0 < length w.left → ⊥
    zero_there e l s = let g : length w.left ≤ n = ltb-false n (length w.left) l in omega arith

    by : (z l : Bool) → (n == 0) ≡ z → nat_lt n (length w.left) ≡ l → is_spent w ≡ false
        → whole_within (n - length w.left) queue ++ map (λ w. w.frame) (behind (n - length w.left) queue) ≡ map (λ w. w.frame) queue
        → (if l then [] else w.frame ∷ whole_within (n - length w.left) queue)
        ++ map (λ w. w.frame) (if z then w ∷ queue else if l then record w { left = drop n w.left; fixed = true } ∷ queue else behind (n - length w.left) queue)
        ≡ w.frame ∷ map (λ w. w.frame) queue
    by true true z l s rest = refl
    by true false z l s rest = absurd (zero_there (eqb-true n 0 z) l (some w.left s))
    by false true z l s rest = refl
    by false false z l s rest = ap (λ fs. w.frame ∷ fs) rest
