-- Every step keeps both courses sound, and both messages grow.
use Rattle.std.proofs.Common.{inl, inr, sym, ◌∙◌, ap, subst, refl, arith}
use Rattle.std.specs.Prelude.{ℕ, ◌≡◌, Bool, true, false, not, ◌&&◌, ◌||◌, List, [], ◌∷◌, Option, Some, None, if◌then◌else◌, is_some, ◌++◌}
use Rattle.std.specs.List.{list_any}
use Rattle.ext_msgs.specs.declared.answer.Answer.{Answer}
use Rattle.ext_msgs.specs.declared.answer.Common.{Common}
use Rattle.ext_msgs.specs.declared.answer.Member.{Member}
use Rattle.ext_msgs.specs.declared.answer.Member.TheVariants as member
use Rattle.ext_msgs.specs.declared.answer.ModeNumbers.{ModeNumbers}
use Rattle.ext_msgs.specs.declared.answer.Span.{Span}
use Rattle.ext_msgs.specs.declared.modes.PartModes.{PartModes}
use Rattle.http_model.specs.Heads.{is_bodiless}
use Rattle.http_model.specs.Reader.{Extends}
use Rattle.http_model.specs.declared.types.Direction.{Direction}
use Rattle.http_model.specs.declared.types.Direction.TheVariants.{Request, Response}
use Rattle.filter_model.specs.Config.{CourseConfig, FilterConfig}
use Rattle.filter_model.specs.Course.{Course, Outgoing, changed, committed, asked, course_rules, AskedPart, out, is_headers, is_body, is_spurious_at}
use Rattle.filter_model.specs.Grown.{Grown}
use Rattle.filter_model.specs.Account.{ExchangeAccount, Fate, course, gathered, settled, counted_course, given_count, is_released, is_finished, start, fresh_course, one_sent, brought, front}
use Rattle.filter_model.specs.Cut.{Cut, Spurious, PartAnswer, AnswerKind, OfHeaders, OfBody, OfTrailers, kind_of, part_answer, part_cut, part_cut_of, answer_cut_at, answer_cut, processor_cut}
use Rattle.filter_model.specs.Answers.{answered, answered_by, part_answered, joined, override_of, overridden, behind_headers, both_modes, is_of_headers, extended_by, asked_in}
use Rattle.filter_model.specs.Step.{step, step_if, after_end, still_counts, under_cut, under_departure, no_cut, cut, cut_at, is_departure, is_live, accepted, with_ending, on, effect, lets_pass}
use Rattle.filter_model.specs.View.{ViewEntry, Bytes, End, Lost, Answered, TooLong, Closed, NoStream, Tick, Starved, Sent, Given}
use Rattle.filter_model.specs.declared.calls.Side.TheVariants.{Client, Upstream}
use Rattle.filter_model.proofs.Kept.{was_none}
use Rattle.filter_model.proofs.Growing.{grown_then, grown_same}
use Rattle.filter_model.specs.Sound.{Sound}
use Rattle.filter_model.proofs.CourseGrows.{read_grows, commit_grows, release_grows, end_is_final, with_answer, no_head, join_grows, or_first}
use Rattle.filter_model.proofs.Sounds.{release_sound, read_sound, commit_sound, asked_grows, join_sound, modes_sound}

-- what a live account keeps to
pub record Held (c : FilterConfig) (a : ExchangeAccount) : Type 0 where
  pub request : Sound c.course a.request.course
  pub response : Sound c.course a.response.course
  -- nothing comes back before the request's head has gone
  pub later : a.request.course.head ≡ None → a.response.course.original.head ≡ None
  -- the rest passes both ways at once
  pub both : a.response.course.released ≡ a.request.course.released

pub record Goes (c : FilterConfig) (a a' : ExchangeAccount) : Type 0 where
  pub request : Grown (changed c.course Request a.request.course) (changed c.course Request a'.request.course)
  pub response : Grown (changed c.course Response a.response.course) (changed c.course Response a'.response.course)
  pub held : Held c a'

pub goes_then : (c : FilterConfig) (a b d : ExchangeAccount) → Goes c a b → Goes c b d → Goes c a d
goes_then c a b d g k = record {
  request = grown_then (changed c.course Request a.request.course) (changed c.course Request b.request.course) (changed c.course Request d.request.course) g.request k.request;
  response = grown_then (changed c.course Response a.response.course) (changed c.course Response b.response.course) (changed c.course Response d.response.course) g.response k.response;
  held = k.held;
}

pub goes_nowhere : (c : FilterConfig) (a a' : ExchangeAccount) → Held c a → a'.request.course ≡ a.request.course → a'.response.course ≡ a.response.course → Goes c a a'
goes_nowhere c a a' h e f = record {
  request = grown_same (changed c.course Request a.request.course) (changed c.course Request a'.request.course) (ap (changed c.course Request) e);
  response = grown_same (changed c.course Response a.response.course) (changed c.course Response a'.response.course) (ap (changed c.course Response) f);
  held = record {
    request = subst (Sound c.course) (sym e) h.request;
    response = subst (Sound c.course) (sym f) h.response;
    later = λ n. ap (λ w. w.original.head) f ∙ h.later (ap (λ w. w.head) (sym e) ∙ n);
    both = ap (λ w. w.released) f ∙ h.both ∙ ap (λ w. w.released) (sym e);
  };
}

-- Choosing heads

-- the counts of what was sent and given change nothing of the message
pub counts_same : (c : CourseConfig) (d : Direction) (w : Course) (n m : ℕ) → Sound c w
    → Grown (changed c d w) (changed c d (record w { sent = n; given = m })) × Sound c (record w { sent = n; given = m })
unfolding course_rules
counts_same c d w n m s = (
  inr (inl refl),
  record {
    counts = s.counts;
    head_read = s.head_read;
    bodiless = s.bodiless;
    once_headers = s.once_headers;
    once_trailers = s.once_trailers;
    headers = s.headers;
    trailers = s.trailers;
    in_turn = s.in_turn;
    covered = s.covered;
    no_headers = s.no_headers;
    first_made = s.first_made;
  },
)

-- a head is chosen, and what was given behind it is counted
settled_one : (c : CourseConfig) (d : Direction) (w : Course) (front given : List ℕ) → Sound c w
    → Grown (changed c d w) (changed c d (counted_course d front given (committed c d w))) × Sound c (counted_course d front given (committed c d w))
settled_one c d w front given s =
    let x : Course = committed c d w in
    let y = counts_same c d x x.sent (given_count d x.head front given) (commit_sound c d w s) in
    (grown_then (changed c d w) (changed c d x) (changed c d (counted_course d front given x)) (commit_grows c d w) y.0, y.1)

pub settled_goes : (c : FilterConfig) (a : ExchangeAccount) → Held c a → Goes c a (settled c a)
unfolding settled committed
settled_goes c a h =
    let x = settled_one c.course Request a.request.course (front Request a) a.request.given h.request in
    let y = settled_one c.course Response a.response.course (front Response a) a.response.given h.response in
    record {
      request = x.0;
      response = y.0;
      held = record { request = x.1; response = y.1; later = λ n. h.later (was_none a.request.course.head _ _ n); both = h.both };
    }

-- A cut

or_true : (x : Bool) → (x || true) ≡ true
or_true true = refl
or_true false = refl

or_false : (x : Bool) → (x || false) ≡ x
or_false true = refl
or_false false = refl

released_one : (c : CourseConfig) (d : Direction) (w : Course) (b : Bool) → Sound c w
    → Grown (changed c d w) (changed c d (record w { released = w.released || b })) × Sound c (record w { released = w.released || b })
released_one c d w true s = (
  subst (λ r. Grown (changed c d w) (changed c d (record w { released = r }))) (sym (or_true w.released)) (release_grows c d w (end_is_final c d w s)),
  subst (λ r. Sound c (record w { released = r })) (sym (or_true w.released)) (release_sound c w s),
)
released_one c d w false s = (
  grown_same (changed c d w) (changed c d (record w { released = w.released || false })) (ap (λ r. changed c d (record w { released = r })) (or_false w.released)),
  subst (λ r. Sound c (record w { released = r })) (sym (or_false w.released)) s,
)

pub effect_goes : (c : FilterConfig) (k : Cut) (a : ExchangeAccount) → Held c a → Goes c a (effect c k a)
unfolding effect
effect_goes c k a h =
    let x = released_one c.course Request a.request.course (lets_pass c k) h.request in
    let y = released_one c.course Response a.response.course (lets_pass c k) h.response in
    record { request = x.0; response = y.0; held = record { request = x.1; response = y.1; later = h.later; both = ap (λ r. r || lets_pass c k) h.both } }

-- Asks

pub asked_in_goes : (c : FilterConfig) (d : Direction) (a : ExchangeAccount) → Held c a → Goes c a (asked_in c d a)
unfolding asked_in asked course_rules
asked_in_goes c Request a h =
    let x = asked_grows c.course Request a.request.course h.request in
    record { request = x.0; response = grown_same _ _ refl; held = record { request = x.1; response = h.response; later = h.later; both = h.both } }
asked_in_goes c Response a h =
    let x = asked_grows c.course Response a.response.course h.response in
    record { request = grown_same _ _ refl; response = x.0; held = record { request = h.request; response = x.1; later = h.later; both = h.both } }

-- Answers that are no cut

cut_first : (f r : Bool) (k1 k2 k3 : Option Cut) → (r || f) ≡ false → cut_at f r k1 k2 k3 ≡ None → k1 ≡ None
cut_first true true k1 k2 k3 b e = absurd cc
cut_first true false k1 k2 k3 b e = absurd cc
cut_first false true k1 k2 k3 b e = absurd cc
cut_first false false None k2 k3 b e = refl
cut_first false false (Some k) k2 k3 b e = absurd cc

pub first_none : (c : FilterConfig) (x : Answer) (a : ExchangeAccount) → (is_released a || is_finished c a) ≡ false → cut c (Answered (Some x)) a ≡ None → answer_cut c a (Some x) ≡ None
unfolding cut processor_cut
first_none c x a b e = cut_first (is_finished c a) (is_released a) (answer_cut c a (Some x)) _ _ b e

-- an answer to a part that is no cut
pub no_part_cut : (c : FilterConfig) (a : ExchangeAccount) (t : Option Span) (m : Member) (p : PartAnswer) → t ≡ None → part_answer m ≡ Some p
    → answer_cut_at c a t m ≡ None → part_cut c a p ≡ None
no_part_cut c a (Some t) m p f g e = absurd cc
no_part_cut c a None member.Unset p f g e = absurd cc
no_part_cut c a None (member.Immediate i) p f g e = absurd cc
no_part_cut c a None (member.RequestHeaders x) p f g e = ap (part_cut_of c a) (sym g) ∙ e
no_part_cut c a None (member.ResponseHeaders x) p f g e = ap (part_cut_of c a) (sym g) ∙ e
no_part_cut c a None (member.RequestBody x) p f g e = ap (part_cut_of c a) (sym g) ∙ e
no_part_cut c a None (member.ResponseBody x) p f g e = ap (part_cut_of c a) (sym g) ∙ e
no_part_cut c a None (member.RequestTrailers x) p f g e = ap (part_cut_of c a) (sym g) ∙ e
no_part_cut c a None (member.ResponseTrailers x) p f g e = ap (part_cut_of c a) (sym g) ∙ e

-- the ask that it answers
unfoldable pub Answers : (AskedPart → Bool) → List AskedPart → Type 0
Answers kind l = (q : AskedPart) × (more : List AskedPart) × (l ≡ q ∷ more) × (kind q ≡ true)

pub answers_one : (kind : AskedPart → Bool) (b : Bool) (l : List AskedPart) (k : Option Cut) → (if is_spurious_at kind b l then Some Spurious else k) ≡ None → Answers kind l
unfolding Answers
answers_one kind b [] k e = absurd cc
answers_one kind b (q ∷ more) k e = (q, more, refl, by (kind q) e)
  where
    by : (x : Bool) → (if not x || b then Some Spurious else k) ≡ None → x ≡ true
    by true e = refl
    by false e = absurd cc

-- once the answer has joined, with the modes that come with it
pub no_head_yet : (c : CourseConfig) (w : Course) → Sound c w → w.released ≡ false → list_any is_headers (out w) ≡ true → w.head ≡ None
no_head_yet c w s r t = by w.head refl
  where
    clash : true ≡ false → ⊥
    clash e = cc

    by : (o : Option Outgoing) → o ≡ w.head → w.head ≡ None
    by None e = sym e
    by (Some h) e = absurd (clash (sym t ∙ s.no_headers h (sym e) r))

pub headers_out : (w : Course) (q : AskedPart) (more : List AskedPart) → out w ≡ q ∷ more → is_headers q ≡ true → list_any is_headers (out w) ≡ true
headers_out w q more o e = ap (list_any is_headers) o ∙ ap (λ b. b || list_any is_headers more) e

-- the direction of the answer, with new modes for what is behind the headers
own_modes : (c : CourseConfig) (d : Direction) (w : Course) (a : Common) (q : AskedPart) (more : List AskedPart) (m : PartModes) → Sound c w → w.released ≡ false → out w ≡ q ∷ more → is_headers q ≡ true
    → Grown (changed c d w) (changed c d (record w { answers = w.answers ++ a ∷ []; modes = behind_headers w.modes m }))
    × Sound c (record w { answers = w.answers ++ a ∷ []; modes = behind_headers w.modes m }) × (w.head ≡ None)
own_modes c d w a q more m s r o e =
    let t : list_any is_headers (out w) ≡ true = headers_out w q more o e in
    let n : w.head ≡ None = no_head_yet c w s r t in (
      no_head c d w (record w { answers = w.answers ++ a ∷ []; modes = behind_headers w.modes m }) n,
      modes_sound c (with_answer a w) (behind_headers w.modes m) (join_sound c w a q more s o) n (s.in_turn t) s.headers,
      n,
    )

-- the other direction, of which nothing has come
other_modes : (c : CourseConfig) (d : Direction) (w : Course) (m : PartModes) → Sound c w → w.original.head ≡ None
    → Grown (changed c d w) (changed c d (record w { modes = m })) × Sound c (record w { modes = m })
other_modes c d w m s n =
    let k = s.head_read n in
    (no_head c d w (record w { modes = m }) k.0, modes_sound c w m s k.0 (ap (list_any is_body) k.1) (λ e. ap (list_any is_headers) k.1))

with_override : (c : FilterConfig) (p : PartAnswer) (a : ExchangeAccount) (d : Direction) (m : Option (PartModes × PartModes)) → Held c a → is_released a ≡ false
    → (q : AskedPart) (more : List AskedPart) → out (course d a) ≡ q ∷ more → (is_some m ≡ true → is_headers q ≡ true)
    → Goes c a (overridden d m (joined c (record p { direction = d }) a))
with_override c p a Request None h r q more o f =
    record {
      request = join_grows c.course Request a.request.course p.common q more h.request r o;
      response = grown_same _ _ refl;
      held = record { request = join_sound c.course a.request.course p.common q more h.request o; response = h.response; later = h.later; both = h.both };
    }
with_override c p a Response None h r q more o f =
    record {
      request = grown_same _ _ refl;
      response = join_grows c.course Response a.response.course p.common q more h.response (h.both ∙ r) o;
      held = record { request = h.request; response = join_sound c.course a.response.course p.common q more h.response o; later = h.later; both = h.both };
    }
with_override c p a Request (Some m) h r q more o f =
    let x = own_modes c.course Request a.request.course p.common q more m.0 h.request r o (f refl) in
    let y = other_modes c.course Response a.response.course m.1 h.response (h.later x.2) in
    record { request = x.0; response = y.0; held = record { request = x.1; response = y.1; later = h.later; both = h.both } }
with_override c p a Response (Some m) h r q more o f =
    let x = own_modes c.course Response a.response.course p.common q more m.1 h.response (h.both ∙ r) o (f refl) in
    record { request = grown_same _ _ refl; response = x.0; held = record { request = h.request; response = x.1; later = h.later; both = h.both } }

-- modes come with an answer to headers alone
pub override_kind : (c : FilterConfig) (kind : AnswerKind) (n : Option ModeNumbers) → is_some (override_of c kind n) ≡ true → is_of_headers kind ≡ true
override_kind c kind None e = absurd cc
override_kind c kind (Some n) e = by c.allow_override (is_of_headers kind) (both_modes n.numbers) e
  where
    by : (b k : Bool) (m : Option (PartModes × PartModes)) → is_some (if b && k then m else None) ≡ true → k ≡ true
    by true true m e = refl
    by true false m e = absurd cc
    by false k m e = absurd cc

pub kind_of_headers : (kind : AnswerKind) (q : AskedPart) → is_of_headers kind ≡ true → kind_of kind q ≡ true → is_headers q ≡ true
kind_of_headers OfHeaders q e f = f
kind_of_headers OfBody q e f = absurd cc
kind_of_headers OfTrailers q e f = absurd cc

modes_goes : (c : FilterConfig) (p : PartAnswer) (n : Option ModeNumbers) (a : ExchangeAccount) → Held c a → is_released a ≡ false
    → (q : AskedPart) (more : List AskedPart) → out (course p.direction a) ≡ q ∷ more → kind_of p.kind q ≡ true
    → Goes c a (overridden p.direction (override_of c p.kind n) (joined c p a))
modes_goes c p n a h r q more o f =
    with_override c p a p.direction (override_of c p.kind n) h r q more o (λ e. kind_of_headers p.kind q (override_kind c p.kind n e) f)

part_answered_goes : (c : FilterConfig) (x : Answer) (a : ExchangeAccount) (p : Option PartAnswer) → p ≡ part_answer x.member → Held c a → is_released a ≡ false
    → x.timeout ≡ None → answer_cut c a (Some x) ≡ None → Goes c a (part_answered c x.modes a p)
unfolding answer_cut Answers
part_answered_goes c x a None i h r t e = goes_nowhere c a a h refl refl
part_answered_goes c x a (Some p) i h r t e =
    let k : part_cut c a p ≡ None = no_part_cut c a x.timeout x.member p t (sym i) e in
    let l : Answers (kind_of p.kind) (out (course p.direction a)) = answers_one (kind_of p.kind) _ (out (course p.direction a)) _ k in
    modes_goes c p x.modes a h r l.0 l.1 l.2 l.3

answered_by_goes : (c : FilterConfig) (x : Answer) (a : ExchangeAccount) (t : Option Span) → t ≡ x.timeout → Held c a → is_released a ≡ false
    → answer_cut c a (Some x) ≡ None → Goes c a (answered_by c x a t)
answered_by_goes c x a (Some t) i h r e = goes_nowhere c a (extended_by c t a) h refl refl
answered_by_goes c x a None i h r e = part_answered_goes c x a (part_answer x.member) refl h r (sym i) e

answered_goes : (c : FilterConfig) (e : ViewEntry) (a : ExchangeAccount) → Held c a → cut c e a ≡ None → (is_released a || is_finished c a) ≡ false → Goes c a (answered c e a)
unfolding answered
answered_goes c (Answered (Some x)) a h n b =
    answered_by_goes c x a x.timeout refl h (or_first (is_released a) (is_finished c a) b) (first_none c x a b n)
answered_goes c (Answered None) a h n b = goes_nowhere c a a h refl refl
answered_goes c _ a h n b = goes_nowhere c a a h refl refl

pub accepted_goes : (c : FilterConfig) (e : ViewEntry) (a : ExchangeAccount) → Held c a → cut c e a ≡ None → (b : Bool) → b ≡ (is_released a || is_finished c a) → Goes c a (accepted c e a b)
accepted_goes c e a h n true i = goes_nowhere c a a h refl refl
accepted_goes c e a h n false i = answered_goes c e a h n (sym i)

-- An entry

under_cut_goes : (c : FilterConfig) (e : ViewEntry) (a : ExchangeAccount) (k : Option Cut) → k ≡ cut c e a → Held c a → Goes c a (under_cut c e a k)
unfolding under_cut no_cut
under_cut_goes c e a (Some k) i h =
    let x : Goes c a (settled c a) = settled_goes c a h in
    let y : Goes c (settled c a) (effect c k (settled c a)) = effect_goes c k (settled c a) x.held in
    goes_then c a (settled c a) (settled c (effect c k (settled c a))) x
    (goes_then c (settled c a) (effect c k (settled c a)) (settled c (effect c k (settled c a))) y (settled_goes c (effect c k (settled c a)) y.held))
under_cut_goes c e a None i h =
    let b : ExchangeAccount = accepted c e a (is_released a || is_finished c a) in
    let x : Goes c a b = accepted_goes c e a h (sym i) (is_released a || is_finished c a) refl in
    let y : Goes c b (settled c b) = settled_goes c b x.held in
    let z : Goes c (settled c b) (asked_in c Request (settled c b)) = asked_in_goes c Request (settled c b) y.held in
    let u : Goes c (asked_in c Request (settled c b)) (asked_in c Response (asked_in c Request (settled c b))) = asked_in_goes c Response (asked_in c Request (settled c b)) z.held in
    goes_then c a b (asked_in c Response (asked_in c Request (settled c b))) x
    (goes_then c b (settled c b) (asked_in c Response (asked_in c Request (settled c b))) y
    (goes_then c (settled c b) (asked_in c Request (settled c b)) (asked_in c Response (asked_in c Request (settled c b))) z u))

under_departure_goes : (c : FilterConfig) (e : ViewEntry) (a : ExchangeAccount) (b : Bool) → Held c a → Goes c a (under_departure c e a b)
under_departure_goes c e a true h = goes_nowhere c a (record a { fate = Fate.Left }) h refl refl
under_departure_goes c e a false h = under_cut_goes c e a (cut c e a) refl h

-- What comes: with what a reader makes of more bytes, as a premise

unfoldable pub ReadsOn : ViewEntry → ExchangeAccount → Type 0
ReadsOn e a =
    Extends a.request.course.original (gathered e a).request.course.original
    × Extends a.response.course.original (gathered e a).response.course.original
    × (is_bodiless (gathered e a).request.course.original.length ≡ true → (gathered e a).request.course.original.body ≡ [])
    × (is_bodiless (gathered e a).response.course.original.length ≡ true → (gathered e a).response.course.original.body ≡ [])
    × (a.request.course.head ≡ None → (gathered e a).response.course.original.head ≡ None)

of_both : (c : FilterConfig) (a a' : ExchangeAccount) → Held c a
    → Grown (changed c.course Request a.request.course) (changed c.course Request a'.request.course) × Sound c.course a'.request.course
    → Grown (changed c.course Response a.response.course) (changed c.course Response a'.response.course) × Sound c.course a'.response.course
    → (a'.request.course.head ≡ None → a'.response.course.original.head ≡ None) → a'.response.course.released ≡ a'.request.course.released → Goes c a a'
of_both c a a' h x y l b = record { request = x.0; response = y.0; held = record { request = x.1; response = y.1; later = l; both = b } }

pub gathered_goes : (c : FilterConfig) (e : ViewEntry) (a : ExchangeAccount) → Held c a → ReadsOn e a → Goes c a (gathered e a)
unfolding gathered brought ReadsOn
gathered_goes c (Bytes Client bytes) a h r = record {
  request = read_grows c.course Request a.request.course _ (λ n. (h.request.head_read n).0) r.0;
  response = grown_same _ _ refl;
  held = record { request = read_sound c.course a.request.course _ h.request r.0 r.2; response = h.response; later = r.4; both = h.both };
}
gathered_goes c (Bytes Upstream bytes) a h r = record {
  request = grown_same _ _ refl;
  response = read_grows c.course Response a.response.course _ (λ n. (h.response.head_read n).0) r.1;
  held = record { request = h.request; response = read_sound c.course a.response.course _ h.response r.1 r.3; later = r.4; both = h.both };
}
gathered_goes c (End Client) a h r = record {
  request = read_grows c.course Request a.request.course _ (λ n. (h.request.head_read n).0) r.0;
  response = grown_same _ _ refl;
  held = record { request = read_sound c.course a.request.course _ h.request r.0 r.2; response = h.response; later = r.4; both = h.both };
}
gathered_goes c (End Upstream) a h r = record {
  request = grown_same _ _ refl;
  response = read_grows c.course Response a.response.course _ (λ n. (h.response.head_read n).0) r.1;
  held = record { request = h.request; response = read_sound c.course a.response.course _ h.response r.1 r.3; later = r.4; both = h.both };
}
gathered_goes c Sent a h r =
    of_both c a (one_sent a) h (counts_same c.course Request a.request.course _ a.request.course.given h.request)
    (counts_same c.course Response a.response.course _ a.response.course.given h.response) h.later h.both
gathered_goes c (Given Client bytes) a h r = goes_nowhere c a (gathered (Given Client bytes) a) h refl refl
gathered_goes c (Given Upstream bytes) a h r = goes_nowhere c a (gathered (Given Upstream bytes) a) h refl refl
gathered_goes c (Lost Client how) a h r = goes_nowhere c a (gathered (Lost Client how) a) h refl refl
gathered_goes c (Lost Upstream how) a h r = goes_nowhere c a (gathered (Lost Upstream how) a) h refl refl
gathered_goes c (Answered x) a h r = goes_nowhere c a a h refl refl
gathered_goes c TooLong a h r = goes_nowhere c a a h refl refl
gathered_goes c (Closed b) a h r = goes_nowhere c a (gathered (Closed b) a) h refl refl
gathered_goes c NoStream a h r = goes_nowhere c a (gathered NoStream a) h refl refl
gathered_goes c (Tick n) a h r = goes_nowhere c a (gathered (Tick n) a) h refl refl
gathered_goes c Starved a h r = goes_nowhere c a a h refl refl

pub step_if_goes : (c : FilterConfig) (e : ViewEntry) (a : ExchangeAccount) (live : Bool) → Held c a → ReadsOn e a → Goes c a (step_if c e a live)
unfolding on with_ending
step_if_goes c e a true h r =
    let g : ExchangeAccount = gathered e a in
    let x : Goes c a g = gathered_goes c e a h r in
    let y : Goes c g (under_departure c e g (is_departure e g)) = under_departure_goes c e g (is_departure e g) x.held in
    goes_then c a g (step_if c e a true) x
    (goes_then c g (under_departure c e g (is_departure e g)) (step_if c e a true) y
    (goes_nowhere c (under_departure c e g (is_departure e g)) (step_if c e a true) y.held refl refl))
step_if_goes c e a false h r = by (still_counts e)
  where
    by : (b : Bool) → Goes c a (after_end e a b)
    by true = gathered_goes c e a h r
    by false = goes_nowhere c a a h refl refl

pub step_goes : (c : FilterConfig) (e : ViewEntry) (a : ExchangeAccount) → Held c a → ReadsOn e a → Goes c a (step c e a)
unfolding step
step_goes c e a h r = step_if_goes c e a (is_live a.fate) h r

pub fresh_sound : (c : CourseConfig) (m : PartModes) → Sound c (fresh_course m)
fresh_sound c m = record {
  counts = omega arith;
  head_read = λ n. (refl, refl);
  bodiless = λ n. refl;
  once_headers = refl;
  once_trailers = refl;
  headers = λ e. refl;
  trailers = λ e. absurd cc;
  in_turn = λ e. refl;
  covered = λ b e. absurd cc;
  no_headers = λ h e r. refl;
  first_made = λ h e r. absurd cc;
}

pub held_first : (c : FilterConfig) → Held c (start c)
held_first c = record {
  request = fresh_sound c.course c.request;
  response = fresh_sound c.course c.response;
  later = λ n. refl;
  both = refl;
}
