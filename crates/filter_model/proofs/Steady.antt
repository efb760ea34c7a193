-- What every account of a history keeps to: each course is firm, the asks sent are counted in both directions, and while the
-- exchange lives each step ends at rest: heads that can go were chosen, given bytes were counted, and no ask is due.
use Rattle.std.proofs.Common.{sym, ◌∙◌, ap, subst, refl}
use Rattle.std.specs.Prelude.{◌≡◌, Bool, true, false, ◌||◌, List, [], ◌∷◌, Option, Some, None, is_some, unwrap_or}
use Rattle.std.specs.List.{list_any}
use Rattle.ext_msgs.specs.declared.answer.Answer.{Answer}
use Rattle.ext_msgs.specs.declared.answer.Member.{Member}
use Rattle.ext_msgs.specs.declared.answer.Member.TheVariants as member
use Rattle.ext_msgs.specs.declared.answer.Span.{Span}
use Rattle.ext_msgs.specs.declared.modes.PartModes.{PartModes}
use Rattle.http_model.specs.Bytes.{is_empty}
use Rattle.http_model.specs.declared.types.Direction.{Direction}
use Rattle.http_model.specs.declared.types.Direction.TheVariants.{Request, Response}
use Rattle.filter_model.specs.Config.{CourseConfig, FilterConfig}
use Rattle.filter_model.specs.Course.{Course, AskedPart, Headers, Body, Trailers, Outgoing, out, is_headers, is_trailers, committed}
use Rattle.filter_model.specs.Account.{ExchangeAccount, course, gathered, settled, brought, is_released, is_finished}
use Rattle.filter_model.specs.Cut.{Cut, PartAnswer, AnswerKind, OfHeaders, OfBody, OfTrailers, kind_of, part_answer, part_cut, answer_cut}
use Rattle.filter_model.specs.Answers.{answered, answered_by, part_answered, joined, override_of, overridden, behind_headers, asked_in}
use Rattle.filter_model.specs.Step.{step, step_if, after_end, still_counts, under_cut, under_departure, no_cut, cut, is_departure, is_live, accepted, with_ending, on, effect}
use Rattle.filter_model.specs.View.{ViewEntry, Bytes, End, Lost, Answered, TooLong, Closed, NoStream, Tick, Starved, Sent, Given}
use Rattle.filter_model.specs.declared.calls.Side.TheVariants.{Client, Upstream}
use Rattle.filter_model.specs.Sound.{Sound}
use Rattle.filter_model.proofs.CourseGrows.{with_answer, or_first}
use Rattle.filter_model.proofs.StepGrows.{Held, settled_goes, asked_in_goes, accepted_goes, gathered_goes, answers_one, no_part_cut, Answers, kind_of_headers, override_kind, first_none}
use Rattle.filter_model.proofs.ReadAlong.{Fits, reads_on}
use Rattle.filter_model.proofs.GivenRight.{Along}
use Rattle.filter_model.proofs.Firm.{Firm, join_firm, asked_firm}

-- Both courses are firm

pub record Firms (a : ExchangeAccount) : Type 0 where
  pub request : Firm a.request.course
  pub response : Firm a.response.course

settled_firm : (c : FilterConfig) (a : ExchangeAccount) → Firms a → Firms (settled c a)
unfolding settled committed
settled_firm c a f = record {
  request = record { first = f.request.first; stops = f.request.stops };
  response = record { first = f.response.first; stops = f.response.stops };
}

effect_firm : (c : FilterConfig) (k : Cut) (a : ExchangeAccount) → Firms a → Firms (effect c k a)
unfolding effect
effect_firm c k a f = record {
  request = record { first = f.request.first; stops = f.request.stops };
  response = record { first = f.response.first; stops = f.response.stops };
}

asked_in_firm : (c : FilterConfig) (d : Direction) (a : ExchangeAccount) → Held c a → Firms a → Firms (asked_in c d a)
unfolding asked_in
asked_in_firm c Request a h f = record { request = asked_firm c.course Request a.request.course f.request h.request; response = f.response }
asked_in_firm c Response a h f = record { request = f.request; response = asked_firm c.course Response a.response.course f.response h.response }

gathered_firm : (e : ViewEntry) (a : ExchangeAccount) → Firms a → Firms (gathered e a)
unfolding gathered brought
gathered_firm (Bytes Client bytes) a f = record { request = record { first = f.request.first; stops = f.request.stops }; response = f.response }
gathered_firm (Bytes Upstream bytes) a f = record { request = f.request; response = record { first = f.response.first; stops = f.response.stops } }
gathered_firm (End Client) a f = record { request = record { first = f.request.first; stops = f.request.stops }; response = f.response }
gathered_firm (End Upstream) a f = record { request = f.request; response = record { first = f.response.first; stops = f.response.stops } }
gathered_firm (Lost Client how) a f = record { request = f.request; response = f.response }
gathered_firm (Lost Upstream how) a f = record { request = f.request; response = f.response }
gathered_firm (Given Client bytes) a f = record { request = f.request; response = f.response }
gathered_firm (Given Upstream bytes) a f = record { request = f.request; response = f.response }
gathered_firm (Answered x) a f = f
gathered_firm TooLong a f = f
gathered_firm (Closed b) a f = record { request = f.request; response = f.response }
gathered_firm NoStream a f = record { request = f.request; response = f.response }
gathered_firm (Tick n) a f = record { request = f.request; response = f.response }
gathered_firm Starved a f = f
gathered_firm Sent a f = record {
  request = record { first = f.request.first; stops = f.request.stops };
  response = record { first = f.response.first; stops = f.response.stops };
}

-- an answer to trailers doesn't replace

abbrev is_of_trailers : AnswerKind → Bool
is_of_trailers OfHeaders = false
is_of_trailers OfBody = false
is_of_trailers OfTrailers = true

abbrev KeepsTrailers : PartAnswer → Type 0
KeepsTrailers p = is_of_trailers p.kind ≡ true → p.common.replace ≡ false

same_part : (p q : PartAnswer) → Some p ≡ Some q → p ≡ q
same_part p q e = ap (λ o. unwrap_or o p) e

trailers_keep : (m : Member) (p : PartAnswer) → part_answer m ≡ Some p → KeepsTrailers p
trailers_keep member.Unset p e = absurd cc
trailers_keep (member.Immediate i) p e = absurd cc
trailers_keep (member.RequestHeaders x) p e = subst KeepsTrailers (same_part _ p e) (λ i. absurd cc)
trailers_keep (member.ResponseHeaders x) p e = subst KeepsTrailers (same_part _ p e) (λ i. absurd cc)
trailers_keep (member.RequestBody x) p e = subst KeepsTrailers (same_part _ p e) (λ i. absurd cc)
trailers_keep (member.ResponseBody x) p e = subst KeepsTrailers (same_part _ p e) (λ i. absurd cc)
trailers_keep (member.RequestTrailers x) p e = subst KeepsTrailers (same_part _ p e) (λ i. refl)
trailers_keep (member.ResponseTrailers x) p e = subst KeepsTrailers (same_part _ p e) (λ i. refl)

kind_of_trailers : (kind : AnswerKind) (q : AskedPart) → kind_of kind q ≡ true → is_trailers q ≡ true → is_of_trailers kind ≡ true
kind_of_trailers OfTrailers q e f = refl
kind_of_trailers OfHeaders (Headers x b) e f = absurd cc
kind_of_trailers OfHeaders (Body x b) e f = absurd cc
kind_of_trailers OfHeaders (Trailers x) e f = absurd cc
kind_of_trailers OfBody (Headers x b) e f = absurd cc
kind_of_trailers OfBody (Body x b) e f = absurd cc
kind_of_trailers OfBody (Trailers x) e f = absurd cc

-- new modes behind the headers
modes_firm : (w : Course) (m : PartModes) → Firm w → Firm (record w { modes = behind_headers w.modes m })
modes_firm w m f = record { first = f.first; stops = f.stops }

-- all modes, of a course of which nothing was asked
fresh_firm : (w : Course) (m : PartModes) → Firm w → w.asks ≡ [] → Firm (record w { modes = m })
fresh_firm w m f e = record { first = λ i n. absurd (clash (sym (ap is_empty e) ∙ n)); stops = f.stops }
  where
    clash : true ≡ false → ⊥
    clash e = cc

override_firm : (c : FilterConfig) (p : PartAnswer) (a : ExchangeAccount) (d : Direction) (m : Option (PartModes × PartModes)) → Held c a → is_released a ≡ false → Firms a
    → (q : AskedPart) (more : List AskedPart) → out (course d a) ≡ q ∷ more → (is_trailers q ≡ true → p.common.replace ≡ false) → (is_some m ≡ true → is_headers q ≡ true)
    → Firms (overridden d m (joined c (record p { direction = d }) a))
override_firm c p a Request None h r f q more o t k = record { request = join_firm c.course a.request.course p.common q more f.request h.request o t; response = f.response }
override_firm c p a Response None h r f q more o t k = record { request = f.request; response = join_firm c.course a.response.course p.common q more f.response h.response o t }
override_firm c p a Request (Some m) h r f q more o t k =
    let asked : list_any is_headers (out a.request.course) ≡ true = ap (list_any is_headers) o ∙ ap (λ b. b || list_any is_headers more) (k refl) in
    record {
      request = modes_firm (with_answer p.common a.request.course) m.0 (join_firm c.course a.request.course p.common q more f.request h.request o t);
      response = fresh_firm a.response.course m.1 f.response (h.response.head_read (h.later (no_head_yet c.course a.request.course h.request r asked))).1;
    }
  where
    clash : true ≡ false → ⊥
    clash e = cc

    no_head_yet : (c : CourseConfig) (w : Course) → Sound c w → w.released ≡ false → list_any is_headers (out w) ≡ true → w.head ≡ None
    no_head_yet c w s r t = by c w s r t w.head refl
      where
        by : (c : CourseConfig) (w : Course) → Sound c w → w.released ≡ false → list_any is_headers (out w) ≡ true → (o : Option Outgoing) → o ≡ w.head → w.head ≡ None
        by c w s r t None e = sym e
        by c w s r t (Some x) e = absurd (clash (sym t ∙ s.no_headers x (sym e) r))
override_firm c p a Response (Some m) h r f q more o t k = record {
  request = f.request;
  response = modes_firm (with_answer p.common a.response.course) m.1 (join_firm c.course a.response.course p.common q more f.response h.response o t);
}

part_firm : (c : FilterConfig) (x : Answer) (a : ExchangeAccount) (p : Option PartAnswer) → p ≡ part_answer x.member → Held c a → is_released a ≡ false → Firms a
    → x.timeout ≡ None → answer_cut c a (Some x) ≡ None → Firms (part_answered c x.modes a p)
unfolding answer_cut Answers
part_firm c x a None i h r f t e = f
part_firm c x a (Some p) i h r f t e =
    let k : part_cut c a p ≡ None = no_part_cut c a x.timeout x.member p t (sym i) e in
    let l : Answers (kind_of p.kind) (out (course p.direction a)) = answers_one (kind_of p.kind) _ (out (course p.direction a)) _ k in
    override_firm c p a p.direction (override_of c p.kind x.modes) h r f l.0 l.1 l.2
    (λ g. trailers_keep x.member p (sym i) (kind_of_trailers p.kind l.0 l.3 g))
    (λ g. kind_of_headers p.kind l.0 (override_kind c p.kind x.modes g) l.3)

by_firm : (c : FilterConfig) (x : Answer) (a : ExchangeAccount) (t : Option Span) → t ≡ x.timeout → Held c a → is_released a ≡ false → Firms a
    → answer_cut c a (Some x) ≡ None → Firms (answered_by c x a t)
by_firm c x a (Some t) i h r f e = record { request = f.request; response = f.response }
by_firm c x a None i h r f e = part_firm c x a (part_answer x.member) refl h r f (sym i) e

answered_firm : (c : FilterConfig) (e : ViewEntry) (a : ExchangeAccount) → Held c a → Firms a → cut c e a ≡ None → (is_released a || is_finished c a) ≡ false → Firms (answered c e a)
unfolding answered
answered_firm c (Answered (Some x)) a h f n b = by_firm c x a x.timeout refl h (or_first (is_released a) (is_finished c a) b) f (first_none c x a b n)
answered_firm c (Answered None) a h f n b = f
answered_firm c _ a h f n b = f

accepted_firm : (c : FilterConfig) (e : ViewEntry) (a : ExchangeAccount) → Held c a → Firms a → cut c e a ≡ None → (b : Bool) → b ≡ (is_released a || is_finished c a) → Firms (accepted c e a b)
accepted_firm c e a h f n true i = f
accepted_firm c e a h f n false i = answered_firm c e a h f n (sym i)

under_cut_firm : (c : FilterConfig) (e : ViewEntry) (a : ExchangeAccount) (k : Option Cut) → k ≡ cut c e a → Held c a → Firms a → Firms (under_cut c e a k)
unfolding under_cut no_cut
under_cut_firm c e a (Some k) i h f = settled_firm c (effect c k (settled c a)) (effect_firm c k (settled c a) (settled_firm c a f))
under_cut_firm c e a None i h f =
    let b : Bool = is_released a || is_finished c a in
    let x : ExchangeAccount = accepted c e a b in
    let held_x : Held c x = (accepted_goes c e a h (sym i) b refl).held in
    let held_y : Held c (settled c x) = (settled_goes c x held_x).held in
    let held_z : Held c (asked_in c Request (settled c x)) = (asked_in_goes c Request (settled c x) held_y).held in
    asked_in_firm c Response (asked_in c Request (settled c x)) held_z
    (asked_in_firm c Request (settled c x) held_y (settled_firm c x (accepted_firm c e a h f (sym i) b refl)))

departure_firm : (c : FilterConfig) (e : ViewEntry) (a : ExchangeAccount) (b : Bool) → Held c a → Firms a → Firms (under_departure c e a b)
departure_firm c e a true h f = record { request = f.request; response = f.response }
departure_firm c e a false h f = under_cut_firm c e a (cut c e a) refl h f

if_firm : (c : FilterConfig) (e : ViewEntry) (a : ExchangeAccount) (live : Bool) → Held c (gathered e a) → Firms a → Firms (step_if c e a live)
unfolding on with_ending
if_firm c e a true h f =
    let x : Firms (under_departure c e (gathered e a) (is_departure e (gathered e a))) = departure_firm c e (gathered e a) (is_departure e (gathered e a)) h (gathered_firm e a f) in
    record { request = x.request; response = x.response }
if_firm c e a false h f = by (still_counts e)
  where
    by : (b : Bool) → Firms (after_end e a b)
    by true = gathered_firm e a f
    by false = f

pub step_firm : (c : FilterConfig) (e : ViewEntry) (a : ExchangeAccount) → Along c a → Fits c a e → Firms a → Firms (step c e a)
unfolding step
step_firm c e a l g f = if_firm c e a (is_live a.fate) (gathered_goes c e a l.held (reads_on c e a l.read l.held g)).held f
