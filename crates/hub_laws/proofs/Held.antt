-- What always holds of the frames of one stream: those given, those that wait, and those held for its head.
use Rattle.std.proofs.Common.{sym, ◌∙◌, ap, subst, inl, inr, ◌⊎◌, append_assoc}
use Rattle.std.specs.Prelude.{ℕ, ◌≡◌, Bool, true, false, not, ◌&&◌, ◌||◌, List, [], ◌∷◌, ◌++◌, drop, map, filter, cond, refl}
use Rattle.std.specs.List.{list_any}
use Rattle.h2_frames.specs.declared.frame.Frame.{Frame}
use Rattle.h2_frames.specs.declared.frame.Frame.TheVariants as frame
use Rattle.h2_model.specs.History.{frame_in}
use Rattle.h2_model.specs.Log.{LogEntry}
use Rattle.h2_model.specs.Queue.{Waiting, has_bytes, is_block, is_free_of, is_reset_frame}
use Rattle.http_model.specs.Bytes.{IsPrefix}
use Rattle.hub_laws.specs.Outgoing.{Each, all_data, is_body, is_finish, is_sent_on}
use Rattle.hub_laws.proofs.Courses.{clash, cut-any, cut-body, cut-data, finish-stays, has_finish, has_reset, is_bare, reset-stays}
use Rattle.hub_laws.proofs.Queues.{Cut, any-filter, is_begun, is_fixed_on, on, on-cut, on-whole, tail-filter}

abbrev pub held_on : ℕ → List LogEntry → List Frame
held_on id held = filter (is_sent_on id) (map frame_in held)

pub each-weaker : (P Q : Frame → Type 0) → ((f : Frame) → P f → Q f) → (fs : List Frame) → Each P fs → Each Q fs
each-weaker P Q g [] h = tt
each-weaker P Q g (f ∷ fs) h = (g f h.0, each-weaker P Q g fs h.1)

pub each-add : (P : Frame → Type 0) (fs : List Frame) (f : Frame) → Each P fs → P f → Each P (fs ++ f ∷ [])
each-add P [] f h p = (p, tt)
each-add P (g ∷ fs) f h p = (h.0, each-add P fs f h.1 p)

each-cut : (P : Frame → Type 0) (kept lost : List Frame) → Each P (kept ++ lost) → Each P (kept ++ filter is_bare lost)
each-cut P [] [] h = tt
each-cut P [] (f ∷ lost) h = by (is_bare f) (each-cut P [] lost h.1)
  where
    by : (b : Bool) → Each P (filter is_bare lost) → Each P (cond b (f ∷ filter is_bare lost) (filter is_bare lost))
    by true r = (h.0, r)
    by false r = r
each-cut P (f ∷ kept) lost h = (h.0, each-cut P kept lost h.1)

-- What was handed over on the stream (bytes), whether it was reset, ended here, and whether the connection failed; and of
-- each frame what is known.
pub record Values : Type 1 where
  pub handed : List ℕ
  pub reset : Bool
  pub ended : Bool
  pub bad : Bool
  pub known : Frame → Type 0

pub record Body (v : Values) (body : List Frame) : Type 0 where
  pub shape : is_body body ≡ true
  pub bytes : IsPrefix (all_data body) v.handed
  pub all : v.bad ≡ false → v.reset ≡ false → all_data body ≡ v.handed
  pub resets : v.reset ≡ false → has_reset body ≡ false
  pub ends : v.ended ≡ false → has_finish body ≡ false
  pub known : Each v.known body

-- before the head all is held
pub record Headless (goes waits body : List Frame) : Type 0 where
  pub out : goes ≡ []
  pub held : waits ≡ body

pub record Headed (v : Values) (goes waits body : List Frame) : Type 0 where
  pub head : Frame
  pub block : is_block head ≡ true
  pub known : v.known head
  pub out : goes ≡ head ∷ body
  pub held : waits ≡ []

abbrev pub Where : Values → Bool → List Frame → List Frame → List Frame → Type 0
Where v false out held body = Headless out held body
Where v true out held body = Headed v out held body

-- a piece that wasn't begun
abbrev pub is_free_piece : ℕ → Waiting → Bool
is_free_piece id w = is_free_of id w && has_bytes w.frame

pub record Stream (id : ℕ) (v : Values) (headed : Bool) (gone : List Frame) (waiting : List Waiting) (held : List LogEntry) (body : List Frame) : Type 0 where
  pub good : Body v body
  pub place : Where v headed (gone ++ on id waiting) (held_on id held) body
  pub fixed : has_reset body ≡ false → list_any (is_fixed_on id) (drop 1 waiting) ≡ false
  pub dropped : v.reset ≡ true → list_any (is_free_piece id) waiting ≡ false
  pub let_go : v.reset ≡ true → list_any has_bytes (held_on id held) ≡ false

-- More is known of each frame

pub body-more : (v u : Values) (body : List Frame) → u.handed ≡ v.handed → (u.reset ≡ false → v.reset ≡ false) → u.ended ≡ v.ended → (u.bad ≡ false → v.bad ≡ false)
    → ((f : Frame) → v.known f → u.known f) → Body v body → Body u body
body-more v u body h r e b k g = record {
  shape = g.shape;
  bytes = subst (λ d. IsPrefix (all_data body) d) (sym h) g.bytes;
  all = λ x y. g.all (b x) (r y) ∙ sym h;
  resets = λ x. g.resets (r x);
  ends = λ x. g.ends (sym e ∙ x);
  known = each-weaker v.known u.known k body g.known;
}

pub where-more : (v u : Values) (headed : Bool) (out held body : List Frame) → ((f : Frame) → v.known f → u.known f) → Where v headed out held body → Where u headed out held body
where-more v u false out held body k p = record { out = p.out; held = p.held }
where-more v u true out held body k p = record { head = p.head; block = p.block; known = k p.head p.known; out = p.out; held = p.held }

-- Nothing is dropped of this stream

pub held-whole : (id : ℕ) (keep : LogEntry → Bool) (held : List LogEntry) → ((e : LogEntry) → is_sent_on id (frame_in e) ≡ true → keep e ≡ true)
    → held_on id (filter keep held) ≡ held_on id held
held-whole id keep [] h = refl
held-whole id keep (e ∷ held) h = by (keep e) (is_sent_on id (frame_in e)) refl refl (held-whole id keep held h)
  where
    by : (k s : Bool) → keep e ≡ k → is_sent_on id (frame_in e) ≡ s → held_on id (filter keep held) ≡ held_on id held
        → held_on id (cond k (e ∷ filter keep held) (filter keep held)) ≡ held_on id (e ∷ held)
    by true s k t rest = ap (λ fs. cond (is_sent_on id (frame_in e)) (frame_in e ∷ fs) fs) rest
    by false true k t rest = absurd (clash (keep e) (h e t) k)
    by false false k t rest = rest ∙ sym (ap (λ b. cond b (frame_in e ∷ held_on id held) (held_on id held)) t)

pub keep-all : (id : ℕ) (v : Values) (headed : Bool) (gone : List Frame) (waiting : List Waiting) (held : List LogEntry) (body : List Frame)
    (keep : Waiting → Bool) (hold : LogEntry → Bool)
    → ((w : Waiting) → is_sent_on id w.frame ≡ true → keep w ≡ true) → ((e : LogEntry) → is_sent_on id (frame_in e) ≡ true → hold e ≡ true)
    → Stream id v headed gone waiting held body → Stream id v headed gone (filter keep waiting) (filter hold held) body
keep-all id v headed gone waiting held body keep hold kw kh s = record {
  good = s.good;
  place = subst (λ fs. Where v headed (gone ++ fs) (held_on id (filter hold held)) body) (sym (on-whole id keep waiting kw))
      (subst (λ fs. Where v headed (gone ++ on id waiting) fs body) (sym (held-whole id hold held kh)) s.place);
  fixed = λ r. tail-filter (is_fixed_on id) keep waiting (s.fixed r);
  dropped = λ r. any-filter (is_free_piece id) keep waiting (s.dropped r);
  let_go = λ r. ap (list_any has_bytes) (held-whole id hold held kh) ∙ s.let_go r;
}

-- All content is dropped that wasn't begun

held-bare : (id : ℕ) (keep : LogEntry → Bool) (held : List LogEntry) → ((e : LogEntry) → is_sent_on id (frame_in e) ≡ true → keep e ≡ is_bare (frame_in e))
    → held_on id (filter keep held) ≡ filter is_bare (held_on id held)
held-bare id keep [] h = refl
held-bare id keep (e ∷ held) h = by (is_sent_on id (frame_in e)) (keep e) refl refl (held-bare id keep held h)
  where
    more : List Frame
    more = held_on id (filter keep held)

    by : (s k : Bool) → is_sent_on id (frame_in e) ≡ s → keep e ≡ k → more ≡ filter is_bare (held_on id held)
        → held_on id (cond k (e ∷ filter keep held) (filter keep held)) ≡ filter is_bare (cond s (frame_in e ∷ held_on id held) (held_on id held))
    by true true s k rest =
        ap (λ b. cond b (frame_in e ∷ more) more) s ∙ ap (λ fs. frame_in e ∷ fs) rest
        ∙ sym (ap (λ b. cond b (frame_in e ∷ filter is_bare (held_on id held)) (filter is_bare (held_on id held))) (sym (h e s) ∙ k))
    by true false s k rest = rest ∙ sym (ap (λ b. cond b (frame_in e ∷ filter is_bare (held_on id held)) (filter is_bare (held_on id held))) (sym (h e s) ∙ k))
    by false true s k rest = ap (λ b. cond b (frame_in e ∷ more) more) s ∙ rest
    by false false s k rest = rest

bare-none : (fs : List Frame) → list_any has_bytes (filter is_bare fs) ≡ false
bare-none [] = refl
bare-none (f ∷ fs) = by (has_bytes f) refl (bare-none fs)
  where
    by : (b : Bool) → has_bytes f ≡ b → list_any has_bytes (filter is_bare fs) ≡ false → list_any has_bytes (cond (not b) (f ∷ filter is_bare fs) (filter is_bare fs)) ≡ false
    by true e r = r
    by false e r = ap (λ b. b || list_any has_bytes (filter is_bare fs)) e ∙ r

-- only what was known of the stream is left, and its end or reset
pub record Dropped (id : ℕ) (v : Values) (headed : Bool) (gone : List Frame) (waiting : List Waiting) (held : List LogEntry) (old : List Frame) : Type 0 where
  pub body : List Frame
  pub new : Stream id v headed gone waiting held body
  pub resets : has_reset body ≡ has_reset old
  pub ends : has_finish body ≡ has_finish old

cut-good : (v : Values) (kept lost : List Frame) → (v.reset ≡ true) ⊎ (v.bad ≡ true) → Body v (kept ++ lost) → Body v (kept ++ filter is_bare lost)
cut-good v kept lost o g = record {
  shape = cut-body kept lost g.shape;
  bytes = let p = cut-data kept lost in let q = g.bytes in record { rest = p.rest ++ q.rest; whole = sym (append_assoc (all_data (kept ++ filter is_bare lost)) p.rest q.rest) ∙ ap (λ l. l ++ q.rest) p.whole ∙ q.whole };
  all = λ b r. absurd (by o b r);
  resets = λ r. cut-any is_reset_frame reset-stays kept lost ∙ g.resets r;
  ends = λ e. cut-any is_finish finish-stays kept lost ∙ g.ends e;
  known = each-cut v.known kept lost g.known;
}
  where
    by : (v.reset ≡ true) ⊎ (v.bad ≡ true) → v.bad ≡ false → v.reset ≡ false → ⊥
    by (inl x) b r = clash v.reset x r
    by (inr x) b r = clash v.bad x b

pub record Drops (id : ℕ) (keep : Waiting → Bool) : Type 0 where
  pub bare : (w : Waiting) → is_sent_on id w.frame ≡ true → is_begun w ≡ false → keep w ≡ is_bare w.frame
  pub full : (w : Waiting) → keep w ≡ false → is_bare w.frame ≡ false
  pub free : (w : Waiting) → is_free_piece id w ≡ true → keep w ≡ false

pub nothing : (xs ys : List Frame) → xs ++ ys ≡ [] → (xs ≡ []) × (ys ≡ [])
nothing [] ys e = (refl, e)
nothing (x ∷ xs) ys e = absurd cc

none-left : (id : ℕ) (keep : Waiting → Bool) (waiting : List Waiting) → ((w : Waiting) → is_free_piece id w ≡ true → keep w ≡ false)
    → list_any (is_free_piece id) (filter keep waiting) ≡ false
none-left id keep [] h = refl
none-left id keep (w ∷ waiting) h = by (keep w) (is_free_piece id w) refl refl (none-left id keep waiting h)
  where
    by : (k f : Bool) → keep w ≡ k → is_free_piece id w ≡ f → list_any (is_free_piece id) (filter keep waiting) ≡ false
        → list_any (is_free_piece id) (cond k (w ∷ filter keep waiting) (filter keep waiting)) ≡ false
    by true true k f r = absurd (clash (keep w) k (h w f))
    by true false k f r = ap (λ b. b || list_any (is_free_piece id) (filter keep waiting)) f ∙ r
    by false f k g r = r

pub drop-content : (id : ℕ) (v : Values) (headed : Bool) (gone : List Frame) (waiting : List Waiting) (held : List LogEntry) (body : List Frame)
    (keep : Waiting → Bool) (hold : LogEntry → Bool) (s : Stream id v headed gone waiting held body)
    → Drops id keep → ((e : LogEntry) → is_sent_on id (frame_in e) ≡ true → hold e ≡ is_bare (frame_in e))
    → list_any is_begun (drop 1 waiting) ≡ false → (u : Values) → u.handed ≡ v.handed → u.ended ≡ v.ended → (u.bad ≡ false → v.bad ≡ false) → (u.reset ≡ true) ⊎ (u.bad ≡ true)
    → (u.reset ≡ false → v.reset ≡ false) → ((f : Frame) → v.known f → u.known f)
    → Dropped id u headed gone (filter keep waiting) (filter hold held) body
drop-content id v false gone waiting held body keep hold s d kh b u eh ee eb er em k = record {
  body = filter is_bare body;
  new = record {
    good = cut-good u [] body er (body-more v u body eh em ee eb k s.good);
    place = record {
      out = ap (λ fs. fs ++ on id (filter keep waiting)) (nothing gone (on id waiting) s.place.out).0 ∙ cut-none (on-cut id keep waiting d.bare d.full b) (nothing gone (on id waiting) s.place.out).1;
      held = held-bare id hold held kh ∙ ap (filter is_bare) s.place.held;
    };
    fixed = λ r. tail-filter (is_fixed_on id) keep waiting (s.fixed (sym (cut-any is_reset_frame reset-stays [] body) ∙ r));
    dropped = λ r. none-left id keep waiting d.free;
    let_go = λ r. ap (list_any has_bytes) (held-bare id hold held kh) ∙ bare-none (held_on id held);
  };
  resets = cut-any is_reset_frame reset-stays [] body;
  ends = cut-any is_finish finish-stays [] body;
}
  where
    cut-none : Cut (on id waiting) (on id (filter keep waiting)) → on id waiting ≡ [] → on id (filter keep waiting) ≡ []
    cut-none x e =
        let p = nothing x.kept x.lost (sym x.before ∙ e) in
        x.after ∙ ap (λ fs. fs ++ filter is_bare x.lost) p.0 ∙ ap (filter is_bare) p.1
drop-content id v true gone waiting held body keep hold s d kh b u eh ee eb er em k =
    by (on-cut id keep waiting d.bare d.full b)
  where
    gone-held : held_on id (filter hold held) ≡ []
    gone-held = held-bare id hold held kh ∙ ap (filter is_bare) s.place.held

    more : Body u body
    more = body-more v u body eh em ee eb k s.good

    make : (kept lost : List Frame) → body ≡ kept ++ lost → gone ++ on id (filter keep waiting) ≡ s.place.head ∷ (kept ++ filter is_bare lost)
        → Dropped id u true gone (filter keep waiting) (filter hold held) body
    make kept lost e o =
        let same : has_reset (kept ++ filter is_bare lost) ≡ has_reset body = cut-any is_reset_frame reset-stays kept lost ∙ ap has_reset (sym e) in
        record {
          body = kept ++ filter is_bare lost;
          new = record {
            good = cut-good u kept lost er (subst (Body u) e more);
            place = record { head = s.place.head; block = s.place.block; known = k s.place.head s.place.known; out = o; held = gone-held };
            fixed = λ r. tail-filter (is_fixed_on id) keep waiting (s.fixed (sym same ∙ r));
            dropped = λ r. none-left id keep waiting d.free;
            let_go = λ r. ap (list_any has_bytes) gone-held;
          };
          resets = same;
          ends = cut-any is_finish finish-stays kept lost ∙ ap has_finish (sym e);
        }

    bare-block : (f : Frame) → is_block f ≡ true → is_bare f ≡ true
    bare-block (frame.Data n bytes last size) h = absurd cc
    bare-block f h = refl

    by : Cut (on id waiting) (on id (filter keep waiting)) → Dropped id u true gone (filter keep waiting) (filter hold held) body
    by x = front (gone ++ x.kept) refl (append_assoc gone x.kept x.lost ∙ ap (λ fs. gone ++ fs) (sym x.before) ∙ s.place.out)
        (ap (λ fs. gone ++ fs) x.after ∙ sym (append_assoc gone x.kept (filter is_bare x.lost)))
      where
        tail : {x y : Frame} {xs ys : List Frame} → x ∷ xs ≡ y ∷ ys → (x ≡ y) × (xs ≡ ys)
        tail e = (ap (λ l. first l) e, ap (drop 1) e)
          where
            first : List Frame → Frame
            first [] = s.place.head
            first (z ∷ zs) = z

        front : (fs : List Frame) → gone ++ x.kept ≡ fs → fs ++ x.lost ≡ s.place.head ∷ body → gone ++ on id (filter keep waiting) ≡ fs ++ filter is_bare x.lost
            → Dropped id u true gone (filter keep waiting) (filter hold held) body
        front [] e before after =
            make [] body refl (after ∙ ap (filter is_bare) before
            ∙ ap (λ b. cond b (s.place.head ∷ filter is_bare body) (filter is_bare body)) (bare-block s.place.head s.place.block))
        front (f ∷ fs) e before after =
            let p : (f ≡ s.place.head) × (fs ++ x.lost ≡ body) = tail before in make fs x.lost (sym p.1) (after ∙ ap (λ g. g ∷ (fs ++ filter is_bare x.lost)) p.0)
