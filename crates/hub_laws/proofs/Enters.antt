-- One more frame of a stream, and its head.
use Rattle.std.proofs.Common.{sym, ◌∙◌, ap, subst, inl, inr, ◌⊎◌, append-nil, append_assoc}
use Rattle.std.specs.Prelude.{ℕ, ◌≡◌, ◌<◌, Bool, true, false, not, ◌&&◌, ◌||◌, ◌==◌, List, [], ◌∷◌, ◌++◌, drop, map, filter, cond, refl, if◌then◌else◌}
use Rattle.std.specs.List.{list_any}
use Rattle.std.proofs.lemmas.Bool.{eqb-true}
use Rattle.std.proofs.lemmas.Grind.{flat_map-append}
use Rattle.std.proofs.lemmas.List.{map-append}
use Rattle.std.proofs.lemmas.List.Elements.{filter-append}
use Rattle.std.proofs.lemmas.List.Folds.{list_any-append}
use Rattle.h2_frames.specs.declared.frame.Frame.{Frame}
use Rattle.h2_frames.specs.declared.frame.Frame.TheVariants as frame
use Rattle.h2_model.specs.History.{frame_in}
use Rattle.h2_model.specs.Log.{LogEntry, is_empty, stream_of}
use Rattle.h2_model.specs.Queue.{Waiting, entered, fresh, has_bytes, is_block, is_data, is_free, is_free_of, is_reset_frame}
use Rattle.http_model.specs.Bytes.{IsPrefix}
use Rattle.hub_laws.specs.Outgoing.{all_data, are_ends, data_of, is_body, is_content, is_finish, is_sent_on}
use Rattle.hub_laws.proofs.Courses.{add-content, add-finish, add-reset, both, clash, first-end, has_reset, neither, two}
use Rattle.hub_laws.proofs.Queues.{free-last, is_fixed_on, on, placed-last}
use Rattle.hub_laws.proofs.Resets.{MayEnter, body-ends, ends-behind, ends_last, fixed-enters, free-sent, is_loose, reset-enters}
use Rattle.hub_laws.proofs.Held.{Body, Stream, Values, each-add, each-weaker, held_on, is_free_piece}

-- What the stream carries with one more frame

data-add : (fs : List Frame) (f : Frame) → all_data (fs ++ f ∷ []) ≡ all_data fs ++ data_of f
data-add fs f = flat_map-append data_of fs (f ∷ []) ∙ ap (λ d. all_data fs ++ d) (append-nil (data_of f))

any-add : (p : Frame → Bool) (fs : List Frame) (f : Frame) → list_any p fs ≡ false → p f ≡ false → list_any p (fs ++ f ∷ []) ≡ false
any-add p fs f h e = list_any-append p fs (f ∷ []) ∙ ap (λ b. b || (p f || false)) h ∙ ap (λ b. b || false) e

itself : (xs : List ℕ) → IsPrefix xs xs
itself xs = record { rest = []; whole = append-nil xs }

content-kind : (f : Frame) → is_content f ≡ true → (is_finish f ≡ false) × (is_reset_frame f ≡ false)
content-kind (frame.Data id bytes last size) h = (bits last (is_empty bytes) h, refl)
  where
    bits : (l e : Bool) → (not l && not e) ≡ true → (l && e) ≡ false
    bits true e h = absurd cc
    bits false e h = refl
content-kind (frame.Headers id block last ends) h = absurd cc
content-kind (frame.Priority id) h = absurd cc
content-kind (frame.Reset id code) h = absurd cc
content-kind (frame.Settings list) h = absurd cc
content-kind frame.SettingsAck h = absurd cc
content-kind (frame.Push id) h = absurd cc
content-kind (frame.Ping ack bytes) h = absurd cc
content-kind (frame.GoAway last code) h = absurd cc
content-kind (frame.Window id n) h = absurd cc
content-kind (frame.Continuation id block ends) h = absurd cc
content-kind (frame.Unknown kind) h = absurd cc

finish-kind : (f : Frame) → is_finish f ≡ true → (is_reset_frame f ≡ false) × (data_of f ≡ [])
finish-kind (frame.Data id bytes last size) h = (refl, empty bytes (both last (is_empty bytes) h).1)
  where
    empty : (xs : List ℕ) → is_empty xs ≡ true → xs ≡ []
    empty [] h = refl
    empty (x ∷ xs) h = absurd cc
finish-kind (frame.Headers id block last ends) h = absurd cc
finish-kind (frame.Priority id) h = absurd cc
finish-kind (frame.Reset id code) h = absurd cc
finish-kind (frame.Settings list) h = absurd cc
finish-kind frame.SettingsAck h = absurd cc
finish-kind (frame.Push id) h = absurd cc
finish-kind (frame.Ping ack bytes) h = absurd cc
finish-kind (frame.GoAway last code) h = absurd cc
finish-kind (frame.Window id n) h = absurd cc
finish-kind (frame.Continuation id block ends) h = absurd cc
finish-kind (frame.Unknown kind) h = absurd cc

reset-kind : (f : Frame) → is_reset_frame f ≡ true → (is_finish f ≡ false) × (data_of f ≡ [])
reset-kind (frame.Data id bytes last size) h = absurd cc
reset-kind f h = (refl, refl)

pub content-more : (v u : Values) (body : List Frame) (f : Frame) → is_content f ≡ true → v.reset ≡ false → v.ended ≡ false → v.bad ≡ false
    → u.handed ≡ v.handed ++ data_of f → ((g : Frame) → v.known g → u.known g) → u.known f → Body v body → Body u (body ++ f ∷ [])
content-more v u body f c r e b h k kf g =
    let all : all_data (body ++ f ∷ []) ≡ u.handed = data-add body f ∙ ap (λ d. d ++ data_of f) (g.all b r) ∙ sym h in
    record {
      shape = add-content body f g.shape (g.ends e) (g.resets r) c;
      bytes = subst (λ d. IsPrefix d u.handed) (sym all) (itself u.handed);
      all = λ x y. all;
      resets = λ x. any-add is_reset_frame body f (g.resets r) (content-kind f c).1;
      ends = λ x. any-add is_finish body f (g.ends e) (content-kind f c).0;
      known = each-add u.known body f (each-weaker v.known u.known k body g.known) kf;
    }

bare-more : (body : List Frame) (f : Frame) → data_of f ≡ [] → all_data (body ++ f ∷ []) ≡ all_data body
bare-more body f e = data-add body f ∙ ap (λ d. all_data body ++ d) e ∙ append-nil (all_data body)

pub finish-more : (v u : Values) (body : List Frame) (f : Frame) → is_finish f ≡ true → v.reset ≡ false → v.ended ≡ false → u.ended ≡ true
    → (u.bad ≡ false → v.bad ≡ false) → u.handed ≡ v.handed → ((g : Frame) → v.known g → u.known g) → u.known f → Body v body → Body u (body ++ f ∷ [])
finish-more v u body f c r e ue b h k kf g =
    let same : all_data (body ++ f ∷ []) ≡ all_data body = bare-more body f (finish-kind f c).1 in
    record {
      shape = add-finish body f g.shape (g.ends e) (g.resets r) c;
      bytes = subst (λ d. IsPrefix d u.handed) (sym same) (subst (λ d. IsPrefix (all_data body) d) (sym h) g.bytes);
      all = λ x y. same ∙ g.all (b x) r ∙ sym h;
      resets = λ x. any-add is_reset_frame body f (g.resets r) (finish-kind f c).0;
      ends = λ x. absurd (clash u.ended ue x);
      known = each-add u.known body f (each-weaker v.known u.known k body g.known) kf;
    }

pub reset-more : (v u : Values) (body : List Frame) (f : Frame) → is_reset_frame f ≡ true → has_reset body ≡ false → u.reset ≡ true → u.ended ≡ v.ended
    → u.handed ≡ v.handed → ((g : Frame) → v.known g → u.known g) → u.known f → Body v body → Body u (body ++ f ∷ [])
reset-more v u body f c r ur e h k kf g =
    let same : all_data (body ++ f ∷ []) ≡ all_data body = bare-more body f (reset-kind f c).1 in
    record {
      shape = add-reset body f g.shape r c;
      bytes = subst (λ d. IsPrefix d u.handed) (sym same) (subst (λ d. IsPrefix (all_data body) d) (sym h) g.bytes);
      all = λ x y. absurd (clash u.reset ur y);
      resets = λ x. absurd (clash u.reset ur x);
      ends = λ x. any-add is_finish body f (g.ends (sym e ∙ x)) (reset-kind f c).0;
      known = each-add u.known body f (each-weaker v.known u.known k body g.known) kf;
    }

-- It is held, or it enters the queue

held-add : (id : ℕ) (held : List LogEntry) (e : LogEntry) → is_sent_on id (frame_in e) ≡ true → held_on id (held ++ e ∷ []) ≡ held_on id held ++ frame_in e ∷ []
held-add id held e h =
    ap (filter (is_sent_on id)) (map-append frame_in held (e ∷ [])) ∙ filter-append (is_sent_on id) (map frame_in held) (frame_in e ∷ [])
    ∙ ap (λ b. held_on id held ++ cond b (frame_in e ∷ []) []) h

pub free-none : (id : ℕ) (waiting : List Waiting) → list_any has_bytes (on id waiting) ≡ false → list_any (is_free_piece id) waiting ≡ false
free-none id [] h = refl
free-none id (w ∷ waiting) h = by (is_sent_on id w.frame) (is_free_of id w) refl refl h (λ x. free-none id waiting x)
  where
    by : (s f : Bool) → is_sent_on id w.frame ≡ s → is_free_of id w ≡ f → list_any has_bytes (cond s (w.frame ∷ on id waiting) (on id waiting)) ≡ false
        → (list_any has_bytes (on id waiting) ≡ false → list_any (is_free_piece id) waiting ≡ false)
        → ((is_free_of id w && has_bytes w.frame) || list_any (is_free_piece id) waiting) ≡ false
    by false true s f h r = absurd (clash (is_sent_on id w.frame) (free-sent id w f) s)
    by false false s f h r = ap (λ b. (b && has_bytes w.frame) || list_any (is_free_piece id) waiting) f ∙ r h
    by true false s f h r =
        ap (λ b. (b && has_bytes w.frame) || list_any (is_free_piece id) waiting) f ∙ r (neither (has_bytes w.frame) (list_any has_bytes (on id waiting)) h).1
    by true true s f h r =
        let q = neither (has_bytes w.frame) (list_any has_bytes (on id waiting)) h in
        ap (λ b. (b && has_bytes w.frame) || list_any (is_free_piece id) waiting) f ∙ ap (λ b. b || list_any (is_free_piece id) waiting) q.0 ∙ r q.1

fewer-resets : (fs : List Frame) (f : Frame) → has_reset (fs ++ f ∷ []) ≡ false → has_reset fs ≡ false
fewer-resets fs f h = (neither (has_reset fs) (has_reset (f ∷ [])) (sym (list_any-append is_reset_frame fs (f ∷ [])) ∙ h)).0

pub hold-more : (id : ℕ) (v u : Values) (gone : List Frame) (waiting : List Waiting) (held : List LogEntry) (body : List Frame) (e : LogEntry)
    (s : Stream id v false gone waiting held body) → is_sent_on id (frame_in e) ≡ true → (u.reset ≡ true → (v.reset ≡ true) × (has_bytes (frame_in e) ≡ false))
    → Body u (body ++ frame_in e ∷ []) → Stream id u false gone waiting (held ++ e ∷ []) (body ++ frame_in e ∷ [])
hold-more id v u gone waiting held body e s h r g = record {
  good = g;
  place = record { out = s.place.out; held = held-add id held e h ∙ ap (λ fs. fs ++ frame_in e ∷ []) s.place.held };
  fixed = λ x. s.fixed (fewer-resets body (frame_in e) x);
  dropped = λ x. s.dropped (r x).0;
  let_go = λ x. ap (list_any has_bytes) (held-add id held e h) ∙ any-add has_bytes (held_on id held) (frame_in e) (s.let_go (r x).0) (r x).1;
}

pub queue-more : (id : ℕ) (v u : Values) (gone : List Frame) (waiting later : List Waiting) (held : List LogEntry) (body : List Frame) (f : Frame)
    (s : Stream id v true gone waiting held body) → on id later ≡ on id waiting ++ f ∷ []
    → (has_reset (body ++ f ∷ []) ≡ false → list_any (is_fixed_on id) (drop 1 later) ≡ false)
    → (u.reset ≡ true → list_any (is_free_piece id) later ≡ false) → (u.reset ≡ true → v.reset ≡ true)
    → ((g : Frame) → v.known g → u.known g)
    → Body u (body ++ f ∷ []) → Stream id u true gone later held (body ++ f ∷ [])
queue-more id v u gone waiting later held body f s o x d r k g = record {
  good = g;
  place = record {
    head = s.place.head;
    block = s.place.block;
    known = k s.place.head s.place.known;
    out = ap (λ fs. gone ++ fs) o ∙ sym (append_assoc gone (on id waiting) (f ∷ [])) ∙ ap (λ fs. fs ++ f ∷ []) s.place.out;
    held = s.place.held;
  };
  fixed = x;
  dropped = d;
  let_go = λ y. s.let_go (r y);
}

-- When a reset may enter the queue

abbrev pub is_part : Frame → Bool
is_part f = is_block f || is_content f || is_finish f || is_reset_frame f

or_last : (a b : Bool) → b ≡ true → (a || b) ≡ true
or_last true b h = refl
or_last false b h = h

or_first : (a b : Bool) → a ≡ true → (a || b) ≡ true
or_first true b h = refl
or_first false b h = absurd cc

part-content : (f : Frame) → is_content f ≡ true → is_part f ≡ true
part-content f h = or_first (is_block f || is_content f || is_finish f) (is_reset_frame f) (or_first (is_block f || is_content f) (is_finish f) (or_last (is_block f) (is_content f) h))

part-end : (f : Frame) → (is_finish f ≡ true) ⊎ (is_reset_frame f ≡ true) → is_part f ≡ true
part-end f (inl h) = or_first (is_block f || is_content f || is_finish f) (is_reset_frame f) (or_last (is_block f || is_content f) (is_finish f) h)
part-end f (inr h) = or_last (is_block f || is_content f || is_finish f) (is_reset_frame f) h

part-block : (f : Frame) → is_block f ≡ true → is_part f ≡ true
part-block f h = or_first (is_block f || is_content f || is_finish f) (is_reset_frame f) (or_first (is_block f || is_content f) (is_finish f) (or_first (is_block f) (is_content f) h))

body-parts : (fs : List Frame) → is_body fs ≡ true → list_any (λ f. not (is_part f)) fs ≡ false
body-parts [] h = refl
body-parts (f ∷ fs) h = by (is_content f) refl h (λ x. body-parts fs x)
  where
    none : (b c : Bool) → b ≡ true → c ≡ false → (not b || c) ≡ false
    none true c p q = q
    none false c p q = absurd cc

    ends : (fs : List Frame) → are_ends (f ∷ fs) ≡ true → list_any (λ g. not (is_part g)) (f ∷ fs) ≡ false
    ends [] h = none (is_part f) false (part-end f (two (is_finish f) (is_reset_frame f) h)) refl
    ends (y ∷ []) h =
        let p = both (is_finish f) (is_reset_frame y) h in none (is_part f) _ (part-end f (inl p.0)) (none (is_part y) false (part-end y (inr p.1)) refl)
    ends (y ∷ z ∷ more) h = absurd cc

    by : (b : Bool) → is_content f ≡ b → (if b then is_body fs else are_ends (f ∷ fs)) ≡ true → (is_body fs ≡ true → list_any (λ g. not (is_part g)) fs ≡ false)
        → list_any (λ g. not (is_part g)) (f ∷ fs) ≡ false
    by true c h r = none (is_part f) (list_any (λ g. not (is_part g)) fs) (part-content f c) (r h)
    by false c h r = ends fs h

any-behind : (p : Frame → Bool) (xs ys : List Frame) → list_any p (xs ++ ys) ≡ false → list_any p ys ≡ false
any-behind p xs ys h = (neither (list_any p xs) (list_any p ys) (sym (list_any-append p xs ys) ∙ h)).1

loose-none : (id : ℕ) (waiting : List Waiting) → list_any (λ f. not (is_part f)) (on id waiting) ≡ false → list_any (is_free_piece id) waiting ≡ false
    → list_any (is_loose id) waiting ≡ false
loose-none id [] p f = refl
loose-none id (w ∷ waiting) p f =
    let g = neither (is_free_piece id w) (list_any (is_free_piece id) waiting) f in
    by (is_free_of id w) refl g.0 (is_sent_on id w.frame) refl p (λ x. loose-none id waiting x g.1)
  where
    finish : (f : Frame) (x : Bool) → (is_data f && x) ≡ true → has_bytes f ≡ false → not (is_part f) ≡ false → is_finish f ≡ true
    finish (frame.Data n bytes last size) x d h p = bits last (is_empty bytes) h p
      where
        bits : (l e : Bool) → not e ≡ false → not (false || (not l && not e) || (l && e) || false) ≡ false → (l && e) ≡ true
        bits true true h p = refl
        bits true false h p = absurd cc
        bits false true h p = absurd cc
        bits false false h p = absurd cc
    finish (frame.Headers n block last ends) x d h p = absurd cc
    finish (frame.Priority n) x d h p = absurd cc
    finish (frame.Reset n code) x d h p = absurd cc
    finish (frame.Settings list) x d h p = absurd cc
    finish frame.SettingsAck x d h p = absurd cc
    finish (frame.Push n) x d h p = absurd cc
    finish (frame.Ping ack bytes) x d h p = absurd cc
    finish (frame.GoAway last code) x d h p = absurd cc
    finish (frame.Window n m) x d h p = absurd cc
    finish (frame.Continuation n block ends) x d h p = absurd cc
    finish (frame.Unknown kind) x d h p = absurd cc

    later : (s : Bool) → list_any (λ f. not (is_part f)) (cond s (w.frame ∷ on id waiting) (on id waiting)) ≡ false → list_any (λ f. not (is_part f)) (on id waiting) ≡ false
    later true p = (neither (not (is_part w.frame)) (list_any (λ f. not (is_part f)) (on id waiting)) p).1
    later false p = p

    by : (f : Bool) → is_free_of id w ≡ f → (is_free_of id w && has_bytes w.frame) ≡ false → (s : Bool) → is_sent_on id w.frame ≡ s
        → list_any (λ f. not (is_part f)) (cond s (w.frame ∷ on id waiting) (on id waiting)) ≡ false
        → (list_any (λ f. not (is_part f)) (on id waiting) ≡ false → list_any (is_loose id) waiting ≡ false)
        → ((is_free_of id w && not (is_finish w.frame)) || list_any (is_loose id) waiting) ≡ false
    by false e g s t p r = ap (λ b. (b && not (is_finish w.frame)) || list_any (is_loose id) waiting) e ∙ r (later s p)
    by true e g false t p r = absurd (clash (is_sent_on id w.frame) (free-sent id w e) t)
    by true e g true t p r =
        let none : has_bytes w.frame ≡ false = sym (ap (λ b. b && has_bytes w.frame) e) ∙ g in
        let is : is_finish w.frame ≡ true =
        finish w.frame (not w.fixed) (both (is_free w) (stream_of w.frame == id) e).0 none (neither (not (is_part w.frame)) (list_any (λ f. not (is_part f)) (on id waiting)) p).0 in
        ap (λ b. (is_free_of id w && not b) || list_any (is_loose id) waiting) is ∙ ap (λ b. b || list_any (is_loose id) waiting) (and_no (is_free_of id w)) ∙ r (later true p)
      where
        and_no : (b : Bool) → (b && false) ≡ false
        and_no true = refl
        and_no false = refl

head-ends : (h : Frame) (fs : List Frame) → is_block h ≡ true → ends_last fs ≡ true → ends_last (h ∷ fs) ≡ true
head-ends (frame.Data n bytes last size) fs b e = absurd cc
head-ends h fs b e = e

head-kind : (h : Frame) → is_block h ≡ true → is_reset_frame h ≡ false
head-kind (frame.Reset n code) b = absurd cc
head-kind h b = refl

head-bare : (h : Frame) → is_block h ≡ true → has_bytes h ≡ false
head-bare (frame.Data n bytes last size) b = absurd cc
head-bare h b = refl

-- when the frames of the stream that wait are the last of a head and a body
pub may-enter : (id : ℕ) (gone : List Frame) (waiting : List Waiting) (head : Frame) (body : List Frame) → is_block head ≡ true → is_body body ≡ true
    → has_reset body ≡ false → gone ++ on id waiting ≡ head ∷ body → list_any (is_free_piece id) waiting ≡ false
    → list_any (is_fixed_on id) (drop 1 waiting) ≡ false → MayEnter id waiting
may-enter id gone waiting head body b s r o f x = record {
  ends = ends-behind gone (on id waiting) (subst (λ fs. ends_last fs ≡ true) (sym o) (head-ends head body b (body-ends body s r)));
  loose = loose-none id waiting (any-behind (λ f. not (is_part f)) gone (on id waiting) (subst (λ fs. list_any (λ f. not (is_part f)) fs ≡ false) (sym o)
      (ap (λ b. not b || list_any (λ f. not (is_part f)) body) (part-block head b) ∙ body-parts body s))) f;
  fixed = x;
  reset = any-behind is_reset_frame gone (on id waiting) (subst (λ fs. has_reset fs ≡ false) (sym o) (ap (λ b. b || has_reset body) (head-kind head b) ∙ r));
}

-- The head comes, and what was held goes behind it

pub record Moving (id : ℕ) (waiting : List Waiting) (head : Frame) (moved rest : List Frame) : Type 0 where
  pub block : is_block head ≡ true
  pub out : on id waiting ≡ head ∷ moved
  pub shape : is_body (moved ++ rest) ≡ true
  pub bare : has_reset (moved ++ rest) ≡ true → list_any has_bytes (moved ++ rest) ≡ false
  pub fixed : has_reset moved ≡ false → list_any (is_fixed_on id) (drop 1 waiting) ≡ false

pub front-body : (xs ys : List Frame) → is_body (xs ++ ys) ≡ true → is_body xs ≡ true
front-body [] ys h = refl
front-body (f ∷ xs) ys h = by (is_content f) h (λ x. front-body xs ys x)
  where
    ends : (xs : List Frame) → are_ends (f ∷ xs ++ ys) ≡ true → are_ends (f ∷ xs) ≡ true
    ends [] h = one ys h
      where
        one : (ys : List Frame) → are_ends (f ∷ ys) ≡ true → (is_finish f || is_reset_frame f) ≡ true
        one [] h = h
        one (y ∷ []) h = or_first (is_finish f) (is_reset_frame f) (both (is_finish f) (is_reset_frame y) h).0
        one (y ∷ z ∷ more) h = absurd cc
    ends (x ∷ []) h = one ys h
      where
        one : (ys : List Frame) → are_ends (f ∷ x ∷ ys) ≡ true → (is_finish f && is_reset_frame x) ≡ true
        one [] h = h
        one (y ∷ more) h = absurd cc
    ends (x ∷ z ∷ xs) h = absurd cc

    by : (b : Bool) → (if b then is_body (xs ++ ys) else are_ends (f ∷ xs ++ ys)) ≡ true → (is_body (xs ++ ys) ≡ true → is_body xs ≡ true)
        → (if b then is_body xs else are_ends (f ∷ xs)) ≡ true
    by true h r = r h
    by false h r = ends xs h

-- a body has one reset, and it comes last
pub reset-once : (xs : List Frame) (f : Frame) (ys : List Frame) → is_body (xs ++ f ∷ ys) ≡ true → is_reset_frame f ≡ true → has_reset xs ≡ false
reset-once [] f ys h r = refl
reset-once (x ∷ xs) f ys h r = by (is_content x) refl h (λ y. reset-once xs f ys y r)
  where
    ends : (xs : List Frame) → are_ends (x ∷ xs ++ f ∷ ys) ≡ true → has_reset (x ∷ xs) ≡ false
    ends [] h = ap (λ b. b || false) (one ys h)
      where
        one : (ys : List Frame) → are_ends (x ∷ f ∷ ys) ≡ true → is_reset_frame x ≡ false
        one [] h = (finish-kind x (both (is_finish x) (is_reset_frame f) h).0).0
        one (y ∷ more) h = absurd cc
    ends (y ∷ []) h = absurd cc
    ends (y ∷ z ∷ xs) h = absurd cc

    by : (b : Bool) → is_content x ≡ b → (if b then is_body (xs ++ f ∷ ys) else are_ends (x ∷ xs ++ f ∷ ys)) ≡ true
        → (is_body (xs ++ f ∷ ys) ≡ true → has_reset xs ≡ false) → has_reset (x ∷ xs) ≡ false
    by true c h q = ap (λ b. b || has_reset xs) (content-kind x c).1 ∙ q h
    by false c h q = ends xs h

-- a frame that is no reset goes to the end of its stream
pub data-last : (id : ℕ) (f : Frame) (waiting : List Waiting) → is_sent_on id f ≡ true → is_block f ≡ false → is_reset_frame f ≡ false
    → is_data f ≡ true → on id (entered f waiting) ≡ on id waiting ++ f ∷ []
data-last id (frame.Data n bytes last size) waiting s b r d =
    placed-last id (fresh (frame.Data n bytes last size)) waiting s (free-last id (fresh (frame.Data n bytes last size)) waiting refl)
data-last id (frame.Headers n block last ends) waiting s b r d = absurd cc
data-last id (frame.Priority n) waiting s b r d = absurd cc
data-last id (frame.Reset n code) waiting s b r d = absurd cc
data-last id (frame.Settings list) waiting s b r d = absurd cc
data-last id frame.SettingsAck waiting s b r d = absurd cc
data-last id (frame.Push n) waiting s b r d = absurd cc
data-last id (frame.Ping ack bytes) waiting s b r d = absurd cc
data-last id (frame.GoAway last code) waiting s b r d = absurd cc
data-last id (frame.Window n m) waiting s b r d = absurd cc
data-last id (frame.Continuation n block ends) waiting s b r d = absurd cc
data-last id (frame.Unknown kind) waiting s b r d = absurd cc

pub moves : (id : ℕ) (waiting : List Waiting) (head : Frame) (moved : List Frame) (f : Frame) (rest : List Frame) → 0 < id → is_sent_on id f ≡ true
    → Moving id waiting head moved (f ∷ rest) → Moving id (entered f waiting) head (moved ++ f ∷ []) rest
moves id waiting head moved f rest p s m = by f s m
  where
    assoc : (f : Frame) → moved ++ f ∷ rest ≡ (moved ++ f ∷ []) ++ rest
    assoc f = sym (append_assoc moved (f ∷ []) rest)

    make : (f : Frame) → Moving id waiting head moved (f ∷ rest) → on id (entered f waiting) ≡ on id waiting ++ f ∷ []
        → (has_reset (moved ++ f ∷ []) ≡ false → list_any (is_fixed_on id) (drop 1 (entered f waiting)) ≡ false)
        → Moving id (entered f waiting) head (moved ++ f ∷ []) rest
    make f m o x = record {
      block = m.block;
      out = o ∙ ap (λ fs. fs ++ f ∷ []) m.out;
      shape = ap is_body (sym (assoc f)) ∙ m.shape;
      bare = λ h. ap (list_any has_bytes) (sym (assoc f)) ∙ m.bare (ap has_reset (assoc f) ∙ h);
      fixed = x;
    }

    not-part : (f : Frame) → is_part f ≡ false → Moving id waiting head moved (f ∷ rest) → ⊥
    not-part f e m =
        clash (list_any (λ g. not (is_part g)) (f ∷ rest)) (ap (λ b. not b || list_any (λ g. not (is_part g)) rest) e)
        (any-behind (λ g. not (is_part g)) moved (f ∷ rest) (body-parts (moved ++ f ∷ rest) m.shape))

    by : (f : Frame) → is_sent_on id f ≡ true → Moving id waiting head moved (f ∷ rest) → Moving id (entered f waiting) head (moved ++ f ∷ []) rest
    by (frame.Data n bytes last size) s m =
        make (frame.Data n bytes last size) m (data-last id (frame.Data n bytes last size) waiting s refl refl refl)
        (λ h. fixed-enters id (frame.Data n bytes last size) waiting refl (m.fixed (fewer-resets moved (frame.Data n bytes last size) h)))
    by (frame.Reset n code) s m = subst (λ k. Moving id (entered (frame.Reset k code) waiting) head (moved ++ frame.Reset k code ∷ []) rest) (sym (eqb-true n id s))
        (let there : Moving id waiting head moved (frame.Reset id code ∷ rest) = subst (λ k. Moving id waiting head moved (frame.Reset k code ∷ rest)) (eqb-true n id s) m in
        let once : has_reset moved ≡ false = reset-once moved (frame.Reset id code) rest there.shape refl in
        let none : list_any has_bytes (moved ++ frame.Reset id code ∷ rest) ≡ false =
        there.bare (list_any-append is_reset_frame moved (frame.Reset id code ∷ rest) ∙ or_last (has_reset moved) true refl) in
        let few : list_any has_bytes moved ≡ false =
        (neither (list_any has_bytes moved) (list_any has_bytes (frame.Reset id code ∷ rest)) (sym (list_any-append has_bytes moved (frame.Reset id code ∷ rest)) ∙ none)).0 in
        make (frame.Reset id code) there
        (reset-enters id code waiting p (may-enter id [] waiting head moved there.block (front-body moved (frame.Reset id code ∷ rest) there.shape) once there.out
        (free-none id waiting (ap (list_any has_bytes) there.out ∙ ap (λ b. b || list_any has_bytes moved) (head-bare head there.block) ∙ few)) (there.fixed once)))
        (λ h. absurd (clash (has_reset (moved ++ frame.Reset id code ∷ [])) (list_any-append is_reset_frame moved (frame.Reset id code ∷ []) ∙ or_last (has_reset moved) true refl) h)))
    by (frame.Headers n block last ends) s m = absurd (block-last (frame.Headers n block last ends) refl refl refl m)
      where
        block-last : (f : Frame) → is_content f ≡ false → is_finish f ≡ false → is_reset_frame f ≡ false → Moving id waiting head moved (f ∷ rest) → ⊥
        block-last f c e r m = never moved m.shape
          where
            alone : (ys : List Frame) → are_ends (f ∷ ys) ≡ true → ⊥
            alone ys h = elim (first-end f ys h) [ inl x ↦ clash (is_finish f) x e | inr x ↦ clash (is_reset_frame f) x r ]

            second : (x : Frame) (xs : List Frame) → are_ends (x ∷ xs ++ f ∷ rest) ≡ true → ⊥
            second x [] h = more rest h
              where
                more : (ys : List Frame) → are_ends (x ∷ f ∷ ys) ≡ true → ⊥
                more [] h = clash (is_reset_frame f) (both (is_finish x) (is_reset_frame f) h).1 r
                more (y ∷ ys) h = absurd cc
            second x (y ∷ []) h = absurd cc
            second x (y ∷ z ∷ xs) h = absurd cc

            never : (xs : List Frame) → is_body (xs ++ f ∷ rest) ≡ true → ⊥
            never [] h = alone rest (sym (ap (λ b. if b then is_body rest else are_ends (f ∷ rest)) c) ∙ h)
            never (x ∷ xs) h = each (is_content x) h (λ y. never xs y)
              where
                each : (b : Bool) → (if b then is_body (xs ++ f ∷ rest) else are_ends (x ∷ xs ++ f ∷ rest)) ≡ true → (is_body (xs ++ f ∷ rest) ≡ true → ⊥) → ⊥
                each true h q = q h
                each false h q = second x xs h
    by (frame.Priority n) s m = absurd (not-part (frame.Priority n) refl m)
    by (frame.Settings list) s m = absurd (not-part (frame.Settings list) refl m)
    by frame.SettingsAck s m = absurd (not-part frame.SettingsAck refl m)
    by (frame.Push n) s m = absurd (not-part (frame.Push n) refl m)
    by (frame.Ping ack bytes) s m = absurd (not-part (frame.Ping ack bytes) refl m)
    by (frame.GoAway last code) s m = absurd (not-part (frame.GoAway last code) refl m)
    by (frame.Window n k) s m = absurd (not-part (frame.Window n k) refl m)
    by (frame.Continuation n block ends) s m = absurd (not-part (frame.Continuation n block ends) refl m)
    by (frame.Unknown kind) s m = absurd (not-part (frame.Unknown kind) refl m)
