-- A message of the processor that can't be read, or isn't heard any more; and one that brings no answer to a part.
use Rattle.std.proofs.Common.{refl, sym, ◌∙◌, ap}
use Rattle.std.specs.Prelude.{ℕ, ◌≡◌, ◌⊎◌, ◌+◌, Bool, true, false, List, ◌∷◌, Option, Some, None, if◌then◌else◌}
use Rattle.ext_msgs.specs.declared.answer.Answer.{Answer}
use Rattle.ext_msgs.specs.declared.answer.HeaderMutation.{HeaderMutation}
use Rattle.ext_msgs.specs.declared.answer.Immediate.{Immediate}
use Rattle.ext_msgs.specs.declared.answer.Member.TheVariants as member
use Rattle.ext_msgs.specs.declared.answer.PartAnswer.{PartAnswer as Told}
use Rattle.ext_msgs.specs.declared.answer.Span.{Span}
use Rattle.http_model.specs.Wire.{local_reply}
use Rattle.http_model.specs.declared.types.Direction.{Direction}
use Rattle.http_model.specs.declared.types.Direction.TheVariants.{Request, Response}
use Rattle.filter_model.specs.Account.{ExchangeAccount, Flow, flow, gathered, is_finished, is_released, is_to_head, settled}
use Rattle.filter_model.specs.Answers.{answered, answered_by, extended_by}
use Rattle.filter_model.specs.Config.{FilterConfig}
use Rattle.filter_model.specs.Course.{is_over}
use Rattle.filter_model.specs.Cut.{Cut, Immediately, Malformed, OfTrailers, Over, Spurious, answer_cut, answer_cut_at, member_cut, of_trailers, over_cut, part_answer, peer_cut, processor_cut}
use Rattle.filter_model.specs.Half.{kind_numbered}
use Rattle.filter_model.specs.Outgoing.{immediate_reply}
use Rattle.filter_model.specs.Right.{Call, IsHistory, Stepped, account}
use Rattle.filter_model.specs.Step.{after, cut, cut_at, is_live, lets_pass, reply_to}
use Rattle.filter_model.specs.Told.{IsNoCut, known}
use Rattle.filter_model.specs.View.{Answered}
use Rattle.filter_model.proofs.CutHead.{cut_to_head}
use Rattle.filter_model.proofs.NeverOver.{never_over}
use Rattle.filter_model.proofs.NothingTold.{timed_made, timed_timer, timed_told}
use Rattle.filter_model.proofs.RestStays.{same_fate}
use Rattle.exchange.specs.Answering.{CanHear, EndsBy, ExtendsTo, FailsTo, ImmediatelyTo, IsToPart, StaysTo, is_invalid, to_part, unsettled}
use Rattle.exchange.proofs.TimingSteps.{IsFailure, cut_heard, cut_unheard, ends_replied, fails_to, flow_of, rest_of, unheard_stays}

answer_fails : (c : FilterConfig) (y : Option Answer) (a : ExchangeAccount) → y ≡ None → IsFailure c (Answered y) (gathered (Answered y) a) Malformed 500
unfolding processor_cut answer_cut peer_cut
answer_fails c None a e = record { side = tt; processor = tt; stays = refl; is = refl; peer = refl; passes = refl; reply = λ b. refl }
answer_fails c (Some x) a e = absurd cc

pub unread_fails : (c : FilterConfig) (h : List Call) (y : Option Answer) → IsHistory c (Stepped (Answered y) ∷ h) → is_live (account c h).fate ≡ true → y ≡ None
    → is_finished c (account c h) ≡ false → is_released (account c h) ≡ false → FailsTo c 500 (account c h) (unsettled c (Answered y) (account c h))
unfolding gathered
unread_fails c h y s l e f r = fails_to c h (Answered y) Malformed 500 s l (answer_fails c y (account c h) e) f r

pub unheard_answer : (c : FilterConfig) (h : List Call) (y : Option Answer) → IsHistory c (Stepped (Answered y) ∷ h) → is_live (account c h).fate ≡ true
    → (is_released (account c h) ≡ true) ⊎ (is_finished c (account c h) ≡ true) → StaysTo c (account c h) (unsettled c (Answered y) (account c h))
unfolding gathered peer_cut
unheard_answer c h y s l q = unheard_stays c h (Answered y) s l tt refl (cut_unheard c (Answered y) (gathered (Answered y) (account c h)) refl q) q

-- An answer that is a cut

pub fails_by : (c : FilterConfig) (h : List Call) (x : Answer) (k : Cut) → IsHistory c h → CanHear c h x → processor_cut c (account c h) (Answered (Some x)) ≡ Some k → lets_pass c k ≡ c.failure_allow
    → ((b : Bool) → reply_to k b ≡ Some (local_reply 500)) → FailsTo c 500 (account c h) (unsettled c (Answered (Some x)) (account c h))
unfolding gathered peer_cut
fails_by c h x k r y i p t =
    fails_to c h (Answered (Some x)) k 500 (r, tt) y.live (record { side = tt; processor = tt; stays = refl; is = i; peer = refl; passes = p; reply = t }) y.unfinished y.unreleased

pub replies_by : (c : FilterConfig) (h : List Call) (x : Answer) (k : Cut) (reply : List ℕ) → IsHistory c h → CanHear c h x → processor_cut c (account c h) (Answered (Some x)) ≡ Some k → lets_pass c k ≡ false
    → reply_to k (is_to_head (settled c (account c h))) ≡ Some reply → EndsBy c reply (account c h) (unsettled c (Answered (Some x)) (account c h))
unfolding gathered
replies_by c h x k reply r y i p t =
    ends_replied c h (Answered (Some x)) k reply (r, tt) tt y.live refl (cut_heard c (Answered (Some x)) (gathered (Answered (Some x)) (account c h)) k i y.unfinished y.unreleased) p t

-- what its member says counts without a timeout override
pub member_cut_is : (c : FilterConfig) (x : Answer) (a : ExchangeAccount) → x.timeout ≡ None → processor_cut c a (Answered (Some x)) ≡ member_cut c a x.member
unfolding processor_cut answer_cut
member_cut_is c x a e = ap (λ t. answer_cut_at c a t x.member) e

pub unset_fails : (c : FilterConfig) (h : List Call) (x : Answer) → IsHistory c h → CanHear c h x → x.timeout ≡ None → x.member ≡ member.Unset
    → FailsTo c 500 (account c h) (unsettled c (Answered (Some x)) (account c h))
unset_fails c h x r y e m = fails_by c h x Malformed r y (member_cut_is c x (account c h) e ∙ ap (member_cut c (account c h)) m) refl (λ b. refl)

immediately_is : (c : FilterConfig) (h : List Call) (x : Answer) (i : Immediate) → x.timeout ≡ None → x.member ≡ member.Immediate i
    → processor_cut c (account c h) (Answered (Some x)) ≡ Some (if c.no_immediate then Spurious else (if is_invalid i then Malformed else Immediately i))
immediately_is c h x i e m = member_cut_is c x (account c h) e ∙ ap (member_cut c (account c h)) m

pub immediately_to : (c : FilterConfig) (h : List Call) (x : Answer) (i : Immediate) → IsHistory c h → CanHear c h x → x.timeout ≡ None → x.member ≡ member.Immediate i
    → ImmediatelyTo c i (account c h) (unsettled c (Answered (Some x)) (account c h))
immediately_to c h x i r y e m =
    let k = immediately_is c h x i e m in
    record {
      denied = λ n. fails_by c h x Spurious r y (k ∙ ap (λ b. Some (if b then Spurious else (if is_invalid i then Malformed else Immediately i))) n) refl (λ b. refl);
      invalid = λ n v. fails_by c h x Malformed r y
          (k ∙ ap (λ b. Some (if b then Spurious else (if is_invalid i then Malformed else Immediately i))) n ∙ ap (λ b. Some (if b then Malformed else Immediately i)) v) refl (λ b. refl);
      replied = λ n v. replies_by c h x (Immediately i) (immediate_reply (is_to_head (account c h)) i) r y
          (k ∙ ap (λ b. Some (if b then Spurious else (if is_invalid i then Malformed else Immediately i))) n ∙ ap (λ b. Some (if b then Malformed else Immediately i)) v) refl
          (ap (λ b. Some (immediate_reply b i)) (cut_to_head c (account c h)));
    }

-- A timeout override, which is no cut

none_timed : (c : FilterConfig) (h : List Call) (x : Answer) (t : Span) → IsHistory c h → CanHear c h x → x.timeout ≡ Some t → over_cut c (answered c (Answered (Some x)) (account c h)) ≡ None
unfolding over_cut answered
none_timed c h x t r y e =
    ap (λ o. over_cut c (answered_by c x (account c h) o)) e
    ∙ ap (λ b. if b then Some (Over Request) else (if is_over c.course (account c h).response.course then Some (Over Response) else None)) (never_over c h r y.live Request)
    ∙ ap (λ b. if b then Some (Over Response) else None) (never_over c h r y.live Response)

timed_no_cut : (c : FilterConfig) (h : List Call) (x : Answer) (t : Span) → IsHistory c h → CanHear c h x → x.timeout ≡ Some t → IsNoCut c (Answered (Some x)) (account c h)
unfolding cut gathered peer_cut processor_cut answer_cut
timed_no_cut c h x t r y e =
    let a : ExchangeAccount = account c h in
    record {
      live = y.live;
      stays = refl;
      none =
          ap (λ b. cut_at b (is_released a) (answer_cut_at c a x.timeout x.member) (over_cut c (answered c (Answered (Some x)) a)) None) y.unfinished
          ∙ ap (λ b. cut_at false b (answer_cut_at c a x.timeout x.member) (over_cut c (answered c (Answered (Some x)) a)) None) y.unreleased
          ∙ ap (λ o. cut_at false false (answer_cut_at c a o x.member) (over_cut c (answered c (Answered (Some x)) a)) None) e
          ∙ ap (λ k. cut_at false false None k None) (none_timed c h x t r y e);
    }

pub extends_to : (c : FilterConfig) (h : List Call) (x : Answer) (t : Span) → IsHistory c h → CanHear c h x → x.timeout ≡ Some t → ExtendsTo c t (account c h) (unsettled c (Answered (Some x)) (account c h))
unfolding gathered after
extends_to c h x t r y e =
    let a : ExchangeAccount = account c h in
    let n : IsNoCut c (Answered (Some x)) a = timed_no_cut c h x t r y e in
    record {
      live = y.live;
      told = λ d. ap (λ (f : Flow). known f.course) (flow_of c (Answered (Some x)) a d) ∙ ap known (timed_told c h x t (r, tt) n e y.unreleased y.unfinished d);
      timer = λ d o. ap (λ (f : Flow). f.deadline) (flow_of c (Answered (Some x)) a d) ∙ (timed_timer c x t a n e y.unreleased y.unfinished d).0
          ∙ ap (λ b. if b then (flow d (extended_by c t a)).deadline else a.now + c.timeout_ms) o;
      extended = λ d. ap (λ (f : Flow). f.extended) (flow_of c (Answered (Some x)) a d) ∙ (timed_timer c x t a n e y.unreleased y.unfinished d).1;
      rest = rest_of c (Answered (Some x)) a y.live;
      made = timed_made c h x t (r, tt) n e y.unreleased y.unfinished;
      fate = same_fate c (Answered (Some x)) a n;
      ending = refl;
    }

-- An answer to a part

pub says_part : (c : FilterConfig) (h : List Call) (x : Answer) (d : Direction) (part : Told) → CanHear c h x → x.timeout ≡ None → part_answer x.member ≡ Some (to_part d part) → IsToPart c h x d part x.modes
says_part c h x d part y e k = record { heard = y; to = record { untimed = e; part = k; unreleased = y.unreleased; unfinished = y.unfinished }; brings = refl }

pub untimed : (o : Option Span) → ((t : Span) → o ≡ Some t → ⊥) → o ≡ None
untimed None n = refl
untimed (Some t) n = absurd (n t refl)

-- one to trailers
pub to_trailers : (d : Direction) (part : Told) (m : HeaderMutation) → part.part ≡ 2 → part.common ≡ of_trailers m
    → Some (record { direction = d; kind = OfTrailers; common = of_trailers m }) ≡ Some (to_part d part)
to_trailers d part m e i =
    sym (ap (λ n. Some (record { direction = d; kind = kind_numbered n; common = part.common })) e
    ∙ ap (λ y. Some (record { direction = d; kind = OfTrailers; common = y })) i)
