-- What an entry leaves beside the courses: all that it brings stands, and the fate, the timers and the ending are as the rules say.
use Rattle.std.proofs.Common.{◌∙◌, ap, refl}
use Rattle.std.specs.Prelude.{◌≡◌, ◌+◌, Bool, true, false, ◌||◌, Option, Some, None, if◌then◌else◌}
use Rattle.ext_msgs.specs.declared.answer.Answer.{Answer as Answering}
use Rattle.ext_msgs.specs.declared.answer.ModeNumbers.{ModeNumbers}
use Rattle.ext_msgs.specs.declared.answer.Span.{Span}
use Rattle.ext_msgs.specs.declared.modes.PartModes.{PartModes}
use Rattle.http_model.specs.declared.types.Direction.{Direction}
use Rattle.http_model.specs.declared.types.Direction.TheVariants.{Request, Response}
use Rattle.filter_model.specs.Config.{FilterConfig}
use Rattle.filter_model.specs.Account.{ExchangeAccount, Flow, Left, flow, gathered, brought, is_finished, is_out_in, is_released, settled}
use Rattle.filter_model.specs.Answers.{answered, answered_by, joined, overridden, override_of, part_answered}
use Rattle.filter_model.specs.Cut.{Cut, PartAnswer, part_answer}
use Rattle.filter_model.specs.Step.{rules, accepted, cut, effect, ending_of, fate_under, is_departure, is_live, no_cut, on, step, step_if, under_cut, under_departure, with_ending}
use Rattle.filter_model.specs.Told.{IsNoCut}
use Rattle.filter_model.specs.ToldMore.{BringsNoAnswer, SameFlow, SameRest}
use Rattle.filter_model.specs.View.{ViewEntry, Bytes, End, Lost, Answered, TooLong, Closed, NoStream, Tick, Starved, Sent, Given}
use Rattle.filter_model.specs.declared.calls.Side.TheVariants.{Client, Upstream}
use Rattle.filter_model.proofs.AnswerTold.{Ends}
use Rattle.filter_model.proofs.Kept.{departure_kept, gathered-ending, gathered-fate, no_cut_kept}
use Rattle.filter_model.proofs.NothingTold.{timer_in}

-- What stands

flow_then : (f g h : Flow) → SameFlow f g → SameFlow g h → SameFlow f h
flow_then f g h x y = record {
  brought = y.brought ∙ x.brought;
  ended = y.ended ∙ x.ended;
  lost = y.lost ∙ x.lost;
  given = y.given ∙ x.given;
  original = y.original ∙ x.original;
}

rest_then : (a b d : ExchangeAccount) → SameRest a b → SameRest b d → SameRest a d
rest_then a b d x y = record {
  request = flow_then a.request b.request d.request x.request y.request;
  response = flow_then a.response b.response d.response x.response y.response;
  sent = y.sent ∙ x.sent;
  now = y.now ∙ x.now;
  unopened = y.unopened ∙ x.unopened;
  closed = y.closed ∙ x.closed;
}

same_flow : (f : Flow) → SameFlow f f
same_flow f = record { brought = refl; ended = refl; lost = refl; given = refl; original = refl }

same_rest : (a : ExchangeAccount) → SameRest a a
same_rest a = record { request = same_flow a.request; response = same_flow a.response; sent = refl; now = refl; unopened = refl; closed = refl }

joined_rest : (c : FilterConfig) (x : PartAnswer) (d : Direction) (m : Option (PartModes × PartModes)) (a : ExchangeAccount) → SameRest a (overridden d m (joined c (record x { direction = d }) a))
joined_rest c x Request m a = record {
  request = record { brought = refl; ended = refl; lost = refl; given = refl; original = refl };
  response = record { brought = refl; ended = refl; lost = refl; given = refl; original = refl };
  sent = refl;
  now = refl;
  unopened = refl;
  closed = refl;
}
joined_rest c x Response m a = record {
  request = record { brought = refl; ended = refl; lost = refl; given = refl; original = refl };
  response = record { brought = refl; ended = refl; lost = refl; given = refl; original = refl };
  sent = refl;
  now = refl;
  unopened = refl;
  closed = refl;
}

part_rest : (c : FilterConfig) (modes : Option ModeNumbers) (a : ExchangeAccount) (p : Option PartAnswer) → SameRest a (part_answered c modes a p)
part_rest c modes a None = same_rest a
part_rest c modes a (Some p) = joined_rest c p p.direction (override_of c p.kind modes) a

by_rest : (c : FilterConfig) (x : Answering) (a : ExchangeAccount) (t : Option Span) → SameRest a (answered_by c x a t)
by_rest c x a (Some t) = record {
  request = record { brought = refl; ended = refl; lost = refl; given = refl; original = refl };
  response = record { brought = refl; ended = refl; lost = refl; given = refl; original = refl };
  sent = refl;
  now = refl;
  unopened = refl;
  closed = refl;
}
by_rest c x a None = part_rest c x.modes a (part_answer x.member)

accepted_rest : (c : FilterConfig) (e : ViewEntry) (a : ExchangeAccount) (b : Bool) → SameRest a (accepted c e a b)
unfolding answered
accepted_rest c e a true = same_rest a
accepted_rest c (Answered (Some x)) a false = by_rest c x a x.timeout
accepted_rest c _ a false = same_rest a

ends_rest : (c : FilterConfig) (y : ExchangeAccount) → SameRest y (Ends c y)
unfolding rules
ends_rest c y = record {
  request = record { brought = refl; ended = refl; lost = refl; given = refl; original = refl };
  response = record { brought = refl; ended = refl; lost = refl; given = refl; original = refl };
  sent = refl;
  now = refl;
  unopened = refl;
  closed = refl;
}

cut_rest : (c : FilterConfig) (k : Cut) (g : ExchangeAccount) → SameRest g (with_ending c (settled c (effect c k (settled c g))))
unfolding rules
cut_rest c k g = record {
  request = record { brought = refl; ended = refl; lost = refl; given = refl; original = refl };
  response = record { brought = refl; ended = refl; lost = refl; given = refl; original = refl };
  sent = refl;
  now = refl;
  unopened = refl;
  closed = refl;
}

on_rest : (c : FilterConfig) (e : ViewEntry) (g : ExchangeAccount) (k : Option Cut) → SameRest g (with_ending c (under_cut c e g k))
unfolding under_cut no_cut
on_rest c e g (Some k) = cut_rest c k g
on_rest c e g None =
    let y : ExchangeAccount = accepted c e g (is_released g || is_finished c g) in
    rest_then g y (Ends c y) (accepted_rest c e g (is_released g || is_finished c g)) (ends_rest c y)

left_rest : (c : FilterConfig) (e : ViewEntry) (g : ExchangeAccount) (b : Bool) → SameRest g (with_ending c (under_departure c e g b))
unfolding with_ending
left_rest c e g true = record { request = same_flow g.request; response = same_flow g.response; sent = refl; now = refl; unopened = refl; closed = refl }
left_rest c e g false = on_rest c e g (cut c e g)

pub rest_stays : (c : FilterConfig) (e : ViewEntry) (a : ExchangeAccount) → is_live a.fate ≡ true → SameRest (gathered e a) (step c e a)
unfolding step on
rest_stays c e a l = by (is_live a.fate) l
  where
    by : (b : Bool) → b ≡ true → SameRest (gathered e a) (step_if c e a b)
    by true i = left_rest c e (gathered e a) (is_departure e (gathered e a))
    by false i = absurd cc

-- The fate

pub same_fate : (c : FilterConfig) (e : ViewEntry) (a : ExchangeAccount) → IsNoCut c e a → (step c e a).fate ≡ a.fate
unfolding step on under_cut with_ending
same_fate c e a n =
    let g : ExchangeAccount = gathered e a in
    ap (λ b. (step_if c e a b).fate) n.live ∙ ap (λ b. (under_departure c e g b).fate) n.stays ∙ ap (λ k. (under_cut c e g k).fate) n.none
    ∙ (no_cut_kept c e g).fate ∙ gathered-fate e a

pub cut_fate : (c : FilterConfig) (e : ViewEntry) (a : ExchangeAccount) (k : Cut) → is_live a.fate ≡ true → is_departure e (gathered e a) ≡ false → cut c e (gathered e a) ≡ Some k
    → (step c e a).fate ≡ fate_under c k (settled c (gathered e a))
unfolding step on under_cut with_ending settled effect
cut_fate c e a k l d i =
    let g : ExchangeAccount = gathered e a in
    ap (λ b. (step_if c e a b).fate) l ∙ ap (λ b. (under_departure c e g b).fate) d ∙ ap (λ x. (under_cut c e g x).fate) i

pub left_fate : (c : FilterConfig) (e : ViewEntry) (a : ExchangeAccount) → is_live a.fate ≡ true → is_departure e (gathered e a) ≡ true → (step c e a).fate ≡ Left
unfolding step on with_ending
left_fate c e a l d = ap (λ b. (step_if c e a b).fate) l ∙ ap (λ b. (under_departure c e (gathered e a) b).fate) d

-- The end of the stream

pub ending_is : (c : FilterConfig) (e : ViewEntry) (a : ExchangeAccount) → is_live a.fate ≡ true → (step c e a).ending ≡ ending_of c (record (step c e a) { ending = a.ending })
unfolding step on with_ending
ending_is c e a l = by (is_live a.fate) l
  where
    y : ExchangeAccount
    y = under_departure c e (gathered e a) (is_departure e (gathered e a))

    by : (b : Bool) → b ≡ true → (step_if c e a b).ending ≡ ending_of c (record (step_if c e a b) { ending = a.ending })
    by true i = ap (λ x. ending_of c (record y { ending = x })) ((departure_kept c e (gathered e a) (is_departure e (gathered e a))).ending ∙ gathered-ending e a)
    by false i = absurd cc

-- The timers

brings_none : (c : FilterConfig) (e : ViewEntry) (g : ExchangeAccount) (b : Bool) → BringsNoAnswer e → accepted c e g b ≡ g
unfolding answered
brings_none c e g true s = refl
brings_none c (Bytes side bytes) g false s = refl
brings_none c (End side) g false s = refl
brings_none c (Lost side how) g false s = refl
brings_none c (Tick m) g false s = refl
brings_none c Sent g false s = refl
brings_none c (Given side bytes) g false s = refl
brings_none c _ g false s = absurd s

record SameTimer (d : Direction) (a a' : ExchangeAccount) : Type 0 where
  deadline : (flow d a').deadline ≡ (flow d a).deadline
  extended : (flow d a').extended ≡ (flow d a).extended
  waits : is_out_in a' d ≡ is_out_in a d

gathered_timer : (d : Direction) (e : ViewEntry) (a : ExchangeAccount) → SameTimer d a (gathered e a)
unfolding gathered brought
gathered_timer Request (Bytes Client bytes) a = record { deadline = refl; extended = refl; waits = refl }
gathered_timer Request (Bytes Upstream bytes) a = record { deadline = refl; extended = refl; waits = refl }
gathered_timer Request (End Client) a = record { deadline = refl; extended = refl; waits = refl }
gathered_timer Request (End Upstream) a = record { deadline = refl; extended = refl; waits = refl }
gathered_timer Request (Lost Client how) a = record { deadline = refl; extended = refl; waits = refl }
gathered_timer Request (Lost Upstream how) a = record { deadline = refl; extended = refl; waits = refl }
gathered_timer Request (Given Client bytes) a = record { deadline = refl; extended = refl; waits = refl }
gathered_timer Request (Given Upstream bytes) a = record { deadline = refl; extended = refl; waits = refl }
gathered_timer Request (Closed b) a = record { deadline = refl; extended = refl; waits = refl }
gathered_timer Request NoStream a = record { deadline = refl; extended = refl; waits = refl }
gathered_timer Request (Tick m) a = record { deadline = refl; extended = refl; waits = refl }
gathered_timer Request Sent a = record { deadline = refl; extended = refl; waits = refl }
gathered_timer Response (Bytes Client bytes) a = record { deadline = refl; extended = refl; waits = refl }
gathered_timer Response (Bytes Upstream bytes) a = record { deadline = refl; extended = refl; waits = refl }
gathered_timer Response (End Client) a = record { deadline = refl; extended = refl; waits = refl }
gathered_timer Response (End Upstream) a = record { deadline = refl; extended = refl; waits = refl }
gathered_timer Response (Lost Client how) a = record { deadline = refl; extended = refl; waits = refl }
gathered_timer Response (Lost Upstream how) a = record { deadline = refl; extended = refl; waits = refl }
gathered_timer Response (Given Client bytes) a = record { deadline = refl; extended = refl; waits = refl }
gathered_timer Response (Given Upstream bytes) a = record { deadline = refl; extended = refl; waits = refl }
gathered_timer Response (Closed b) a = record { deadline = refl; extended = refl; waits = refl }
gathered_timer Response NoStream a = record { deadline = refl; extended = refl; waits = refl }
gathered_timer Response (Tick m) a = record { deadline = refl; extended = refl; waits = refl }
gathered_timer Response Sent a = record { deadline = refl; extended = refl; waits = refl }
gathered_timer d (Answered x) a = record { deadline = refl; extended = refl; waits = refl }
gathered_timer d TooLong a = record { deadline = refl; extended = refl; waits = refl }
gathered_timer d Starved a = record { deadline = refl; extended = refl; waits = refl }

no_cut_is : (c : FilterConfig) (e : ViewEntry) (a : ExchangeAccount) → BringsNoAnswer e → IsNoCut c e a → step c e a ≡ Ends c (gathered e a)
unfolding step on no_cut under_cut
no_cut_is c e a s n =
    let g : ExchangeAccount = gathered e a in
    ap (step_if c e a) n.live ∙ ap (λ b. with_ending c (under_departure c e g b)) n.stays ∙ ap (λ k. with_ending c (under_cut c e g k)) n.none
    ∙ ap (Ends c) (brings_none c e g (is_released g || is_finished c g) s)

pub timer_is : (c : FilterConfig) (e : ViewEntry) (a : ExchangeAccount) → BringsNoAnswer e → IsNoCut c e a → (d : Direction)
    → ((flow d (step c e a)).deadline ≡ (if is_out_in a d then (flow d a).deadline else (gathered e a).now + c.timeout_ms)) × ((flow d (step c e a)).extended ≡ (flow d a).extended)
timer_is c e a s n d =
    let g : ExchangeAccount = gathered e a in
    let i : step c e a ≡ Ends c g = no_cut_is c e a s n in
    let t = timer_in d c g in
    let f : SameTimer d a g = gathered_timer d e a in (
      ap (λ x. (flow d x).deadline) i ∙ t.0
          ∙ ap (λ b. if b then (flow d g).deadline else g.now + c.timeout_ms) f.waits ∙ ap (λ x. if is_out_in a d then x else g.now + c.timeout_ms) f.deadline,
      ap (λ x. (flow d x).extended) i ∙ t.1 ∙ f.extended,
    )

cut_timer : (d : Direction) (c : FilterConfig) (k : Cut) (g : ExchangeAccount)
    → ((flow d (with_ending c (settled c (effect c k (settled c g))))).deadline ≡ (flow d g).deadline) × ((flow d (with_ending c (settled c (effect c k (settled c g))))).extended ≡ (flow d g).extended)
unfolding with_ending settled effect
cut_timer Request c k g = (refl, refl)
cut_timer Response c k g = (refl, refl)

pub cut_timer_is : (c : FilterConfig) (e : ViewEntry) (a : ExchangeAccount) (k : Cut) → is_live a.fate ≡ true → is_departure e (gathered e a) ≡ false → cut c e (gathered e a) ≡ Some k → (d : Direction)
    → ((flow d (step c e a)).deadline ≡ (flow d a).deadline) × ((flow d (step c e a)).extended ≡ (flow d a).extended)
unfolding step on under_cut
cut_timer_is c e a k l j i d =
    let g : ExchangeAccount = gathered e a in
    let x : step c e a ≡ with_ending c (settled c (effect c k (settled c g))) =
    ap (step_if c e a) l ∙ ap (λ b. with_ending c (under_departure c e g b)) j ∙ ap (λ q. with_ending c (under_cut c e g q)) i in
    let t = cut_timer d c k g in
    let f : SameTimer d a g = gathered_timer d e a in
    (ap (λ z. (flow d z).deadline) x ∙ t.0 ∙ f.deadline, ap (λ z. (flow d z).extended) x ∙ t.1 ∙ f.extended)
