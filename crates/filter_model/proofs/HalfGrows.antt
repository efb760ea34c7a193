-- Every step of one direction keeps its course sound, and its message grows.
use Rattle.std.proofs.Common.{inl, inr, refl, sym, ◌∙◌, ap, subst}
use Rattle.std.specs.Prelude.{ℕ, suc, ◌≡◌, ◌⊎◌, ◌+◌, Bool, true, false, ◌&&◌, ◌||◌, List, [], ◌∷◌, ◌++◌, drop, Option, Some, None, is_some, is_none, if◌then◌else◌}
use Rattle.std.specs.List.{list_any}
use Rattle.ext_msgs.specs.declared.lists.Field.{Field}
use Rattle.ext_msgs.specs.declared.answer.Common.{Common}
use Rattle.ext_msgs.specs.declared.modes.PartModes.{PartModes}
use Rattle.header_mutation.specs.declared.setup.HalfFault.{HalfFault}
use Rattle.header_mutation.specs.declared.setup.HalfFault.TheVariants.{Spurious}
use Rattle.header_mutation.specs.declared.rules.PartKind.TheVariants.{Trailers as TrailerPart}
use Rattle.http_model.specs.Bytes.{is_empty}
use Rattle.http_model.specs.Heads.{is_bodiless}
use Rattle.http_model.specs.Reads.{Original}
use Rattle.http_model.specs.declared.types.Direction.{Direction}
use Rattle.http_model.specs.declared.types.Length.{Length}
use Rattle.filter_model.specs.Config.{CourseConfig}
use Rattle.filter_model.specs.Course.{Course, AskedPart, Changed, Outgoing, changed, changed_at, kept, committed, asked, one_asked, out, pairs, answered_bytes, answered_pieces, answer_to, is_headers, is_body, is_trailers, is_stopped, mode, passing_at, body_done_at, next_body, next_trailers, trailers_at, under, replacement, is_spurious_at, is_streamed_back}
use Rattle.filter_model.specs.Cut.{AnswerKind, kind_of}
use Rattle.filter_model.specs.Account.{fresh_course}
use Rattle.filter_model.specs.Grown.{Grown}
use Rattle.filter_model.specs.Sound.{Sound}
use Rattle.filter_model.specs.Half.{HalfCall, Settle, Head, Bytes, End, Answer, Release, Sent, Given, Progress, called, settled_modes, refusal}
use Rattle.filter_model.specs.HalfRight.{MayRead, MayTell}
use Rattle.filter_model.proofs.Growing.{grown_same, grown_then}
use Rattle.filter_model.proofs.CourseGrows.{no_head, read_grows, commit_grows, release_grows, end_is_final, join_grows}
use Rattle.filter_model.proofs.Sounds.{read_sound, release_sound, join_sound, modes_sound, commit_sound, asked_grows}
use Rattle.filter_model.proofs.StepGrows.{counts_same, no_head_yet, fresh_sound}
use Rattle.http_model.proofs.BodiesGrow.{is_first}

clash : true ≡ false → ⊥
clash e = cc

-- what a course keeps to
pub record Keeps (c : CourseConfig) (w : Course) : Type 0 where
  pub sound : Sound c w
  pub unread : w.original.head ≡ None → (w.original.whole ≡ false) × (w.original.body ≡ [])
  pub bare : w.original.whole ≡ false → w.original.trailers ≡ []

pub keeps_fresh : (c : CourseConfig) (m : PartModes) → Keeps c (fresh_course m)
keeps_fresh c m = record { sound = fresh_sound c m; unread = λ e. (refl, refl); bare = λ e. refl }

abbrev Goes : CourseConfig → Direction → Course → Course → Type 0
Goes c d w w' = Grown (changed c d w) (changed c d w') × Keeps c w'

-- Modes

abbrev with_modes : PartModes → Course → Course
with_modes m w = record w { modes = m }

-- once the rest passes, modes change nothing
abbrev kept_at : CourseConfig → Course → Outgoing → Bool → Changed
kept_at c w head r =
    let done : Bool = body_done_at w.original.whole r (list_any is_body (out w)) (next_body c w) in
    let trailers : Option (List Field) =
    trailers_at (is_empty w.original.trailers) done (answer_to is_trailers w) (λ a. under c TrailerPart w.original.trailers (Some a))
    (r || (is_empty (out w) && is_none (next_trailers w))) w.original.trailers in
    record {
      head = Some head;
      pieces = answered_pieces w;
      passing = if passing_at r (list_any is_body (out w)) (is_stopped w) (mode w) (list_any is_body w.asks) then drop (answered_bytes (pairs w)) w.original.body else [];
      trailers = trailers;
      ended = done && (is_empty w.original.trailers || is_some trailers);
    }

released_kept : (c : CourseConfig) (w : Course) (h : Outgoing) (m : PartModes) → w.released ≡ true → kept c (with_modes m w) h ≡ kept c w h
released_kept c w h m e = ap (kept_at c (with_modes m w) h) e ∙ sym (ap (kept_at c w h) e)

released_same : (c : CourseConfig) (d : Direction) (w : Course) (m : PartModes) → w.released ≡ true → changed c d (with_modes m w) ≡ changed c d w
unfolding changed
released_same c d w m e = by w.head (replacement d w)
  where
    by : (o : Option Outgoing) (r : Option (List ℕ)) → changed_at c (with_modes m w) o r ≡ changed_at c w o r
    by None r = refl
    by (Some h) (Some b) = refl
    by (Some h) None = released_kept c w h m e

released_sound : (c : CourseConfig) (w : Course) (m : PartModes) → Sound c w → w.released ≡ true → list_any is_headers (out w) ≡ true → (m.headers ≡ false → list_any is_headers w.asks ≡ false)
    → Sound c (with_modes m w)
released_sound c w m s r t h = record {
  counts = s.counts;
  head_read = s.head_read;
  bodiless = s.bodiless;
  once_headers = s.once_headers;
  once_trailers = s.once_trailers;
  headers = h;
  trailers = s.trailers;
  in_turn = s.in_turn;
  covered = λ k b. absurd (clash (sym b ∙ s.in_turn t));
  no_headers = λ o e f. absurd (clash (sym r ∙ f));
  first_made = λ o e f. absurd (clash (sym r ∙ f));
}

settle_goes : (c : CourseConfig) (d : Direction) (w : Course) (modes : PartModes) → Keeps c w → (w.original.head ≡ None) ⊎ (list_any is_headers (out w) ≡ true)
    → Goes c d w (with_modes (settled_modes w.original.head w.modes modes) w)
settle_goes c d w modes k y = by y
  where
    new : PartModes
    new = settled_modes w.original.head w.modes modes

    unread : w.original.head ≡ None → Goes c d w (with_modes (settled_modes w.original.head w.modes modes) w)
    unread e =
        let r = k.sound.head_read e in
        let m : PartModes = settled_modes w.original.head w.modes modes in (
          no_head c d w (with_modes m w) r.0,
          record { sound = modes_sound c w m k.sound r.0 (ap (list_any is_body) r.1) (λ z. ap (list_any is_headers) r.1); unread = k.unread; bare = k.bare },
        )

    headers : (o : Option (List Field)) → w.original.head ≡ o → (settled_modes o w.modes modes).headers ≡ false → list_any is_headers w.asks ≡ false
    headers None e z = ap (list_any is_headers) (k.sound.head_read e).1
    headers (Some f) e z = k.sound.headers z

    out_by : (r : Bool) → w.released ≡ r → list_any is_headers (out w) ≡ true → Goes c d w (with_modes (settled_modes w.original.head w.modes modes) w)
    out_by false r t =
        let m : PartModes = settled_modes w.original.head w.modes modes in
        let n : w.head ≡ None = no_head_yet c w k.sound r t in (
          no_head c d w (with_modes m w) n,
          record { sound = modes_sound c w m k.sound n (k.sound.in_turn t) (headers w.original.head refl); unread = k.unread; bare = k.bare },
        )
    out_by true r t =
        let m : PartModes = settled_modes w.original.head w.modes modes in (
          grown_same (changed c d w) (changed c d (with_modes m w)) (released_same c d w m r),
          record { sound = released_sound c w m k.sound r t (headers w.original.head refl); unread = k.unread; bare = k.bare },
        )

    by : (w.original.head ≡ None) ⊎ (list_any is_headers (out w) ≡ true) → Goes c d w (with_modes (settled_modes w.original.head w.modes modes) w)
    by (inl e) = unread e
    by (inr t) = out_by w.released refl t

-- What is read

read_goes : (c : CourseConfig) (d : Direction) (w : Course) (b : List ℕ) (ts : List Field) (e : Bool) → Keeps c w → MayRead w → (e ≡ false → ts ≡ [])
    → Goes c d w (record w { original = record w.original { body = w.original.body ++ b; trailers = ts; whole = e } })
read_goes c d w b ts e k m f =
    let o : Original = record w.original { body = w.original.body ++ b; trailers = ts; whole = e } in (
      read_grows c d w o (λ n. (k.sound.head_read n).0)
          (inr (inr (record { unfinished = m.unfinished; trailers = k.bare m.unfinished; head = refl; length = refl; expects = refl; body = is_first w.original.body b }))),
      record {
        sound = read_sound c w o k.sound
            (inr (inr (record { unfinished = m.unfinished; trailers = k.bare m.unfinished; head = refl; length = refl; expects = refl; body = is_first w.original.body b })))
            (λ z. absurd (clash (sym z ∙ m.has_body)));
        unread = λ z. absurd (clash (sym m.read ∙ ap is_some z));
        bare = f;
      },
    )

head_goes : (c : CourseConfig) (d : Direction) (w : Course) (f : List Field) (n : Length) → Keeps c w → w.original.head ≡ None → Goes c d w (called (Head f n) w)
head_goes c d w f n k e =
    let u = k.unread e in (
      no_head c d w (called (Head f n) w) (k.sound.head_read e).0,
      record {
        sound = read_sound c w (record w.original { head = Some f; length = n; whole = is_bodiless n }) k.sound (inr (inl e)) (λ z. u.1);
        unread = λ z. absurd (some f z);
        bare = λ z. k.bare u.0;
      },
    )
  where
    some : (f : List Field) → Some f ≡ None → ⊥
    some f e = cc

-- Answers

asked_first : (kind : AskedPart → Bool) (streamed : Bool) (l : List AskedPart) (k : Option HalfFault) → (if is_spurious_at kind streamed l then Some Spurious else k) ≡ None
    → (q : AskedPart) × (more : List AskedPart) × (l ≡ q ∷ more)
asked_first kind streamed [] k e = absurd cc
asked_first kind streamed (q ∷ more) k e = (q, more, refl)

answers_out : (c : CourseConfig) (d : Direction) (w : Course) (kind : AnswerKind) (a : Common) → refusal c d w kind a ≡ None → (q : AskedPart) × (more : List AskedPart) × (out w ≡ q ∷ more)
answers_out c d w kind a e = asked_first (kind_of kind) (is_streamed_back a.body) (out w) _ e

answer_goes : (c : CourseConfig) (d : Direction) (w : Course) (a : Common) → Keeps c w → (w.released ≡ true) ⊎ ((kind : AnswerKind) × (refusal c d w kind a ≡ None))
    → Goes c d w (called (Answer a) w)
answer_goes c d w a k y = by w.released refl y
  where
    to : (r : Bool) → w.released ≡ r → Goes c d w (record w { answers = if r then w.answers else w.answers ++ a ∷ [] }) → Goes c d w (called (Answer a) w)
    to r e g = subst (λ b. Goes c d w (record w { answers = if b then w.answers else w.answers ++ a ∷ [] })) (sym e) g

    by : (r : Bool) → w.released ≡ r → (w.released ≡ true) ⊎ ((kind : AnswerKind) × (refusal c d w kind a ≡ None)) → Goes c d w (called (Answer a) w)
    by true e y = to true e (grown_same (changed c d w) (changed c d w) refl, k)
    by false e (inl f) = absurd (clash (sym f ∙ e))
    by false e (inr (kind, f)) =
        let o = answers_out c d w kind a f in
        to false e (join_grows c d w a o.0 o.1 k.sound e o.2, record { sound = join_sound c w a o.0 o.1 k.sound o.2; unread = k.unread; bare = k.bare })

-- Each call

called_goes : (c : CourseConfig) (d : Direction) (p : Progress) (call : HalfCall) → Keeps c p.course → MayTell c d p call → Goes c d p.course (called call p.course)
called_goes c d p (Settle modes) k m = settle_goes c d p.course modes k m
called_goes c d p (Head f n) k m = head_goes c d p.course f n k m
called_goes c d p (Bytes b) k m = read_goes c d p.course b p.course.original.trailers p.course.original.whole k m k.bare
called_goes c d p (End b ts) k m = read_goes c d p.course b ts true k m (λ z. absurd (clash z))
called_goes c d p (Answer a) k m = answer_goes c d p.course a k m
called_goes c d p Release k m = (
  release_grows c d p.course (end_is_final c d p.course k.sound),
  record { sound = release_sound c p.course k.sound; unread = k.unread; bare = k.bare },
)
called_goes c d p Sent k m =
    let s = counts_same c d p.course (suc p.course.sent) p.course.given k.sound in
    (s.0, record { sound = s.1; unread = k.unread; bare = k.bare })
called_goes c d p (Given n) k m =
    let s = counts_same c d p.course p.course.sent (p.course.given + n) k.sound in
    (s.0, record { sound = s.1; unread = k.unread; bare = k.bare })

same_original : (c : CourseConfig) (d : Direction) (w : Course) → (asked c d (committed c d w)).original ≡ w.original
unfolding asked one_asked committed
same_original c d w = refl

pub told_goes : (c : CourseConfig) (d : Direction) (p : Progress) (call : HalfCall) → Keeps c p.course → MayTell c d p call
    → Grown (changed c d p.course) (changed c d (asked c d (committed c d (called call p.course)))) × Keeps c (asked c d (committed c d (called call p.course)))
told_goes c d p call k m =
    let w : Course = called call p.course in
    let x : Course = committed c d w in
    let g = called_goes c d p call k m in
    let h = asked_grows c d x (commit_sound c d w g.1.sound) in
    let e : (asked c d x).original ≡ w.original = same_original c d w in (
      grown_then (changed c d p.course) (changed c d w) (changed c d (asked c d x)) g.0
          (grown_then (changed c d w) (changed c d x) (changed c d (asked c d x)) (commit_grows c d w) h.0),
      record {
        sound = h.1;
        unread = subst (λ (o : Original). o.head ≡ None → (o.whole ≡ false) × (o.body ≡ [])) (sym e) g.1.unread;
        bare = subst (λ (o : Original). o.whole ≡ false → o.trailers ≡ []) (sym e) g.1.bare;
      },
    )
