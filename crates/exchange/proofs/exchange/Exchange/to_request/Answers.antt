use Rattle.std.proofs.Common.{refl, sym, ◌∙◌, ap, subst}
use Rattle.std.specs.Prelude.{◌∷◌, length, filter_map, Some}
use Rattle.http_model.specs.declared.types.Direction.TheVariants.{Request, Response}
use Rattle.filter_model.specs.Right.{Failed, account, ask_given, end_given}
use Rattle.filter_model.specs.View.{Answered}
use Rattle.h1_outlet.proofs.Giving.{on_err}
use Rattle.exchange.specs.Answering.{settled_with, unsettled}
use Rattle.exchange.specs.Flows.{FlowStands}
use Rattle.exchange.specs.Stands.{AtRest, IsAfter, handed_out}
use Rattle.exchange.proofs.AnsweringMoves.{may_settle_early, request_goes}
use Rattle.exchange.proofs.AnsweringParts.{ends_over, may_answer, modes_are, no_cut_so, over_rests, refused_to, story_unreleased, took}
use Rattle.exchange.proofs.GivingTo.{flow_kept, request_kept}
use Rattle.exchange.proofs.ReadingHeard.{replied_settings}
use Rattle.exchange.proofs.ReadingRests.{left_heard, left_of}
use Rattle.exchange.proofs.TimingSteps.{stands_next}
use Rattle.exchange.proofs.TimingTies.{committed_in}
use Rattle.exchange.proofs.exchange.Exchange.to_request.Goals as goal

pub answer-requires : goal.answer-requires
answer-requires g =
    let (c, h, s, p) = g.requires in
    let x = p.0 in
    let k = p.1 in
    let y = g.args.self.now in
    let t = s.ties.request in
    (t.story, t.stands, may_answer c h x Request g.args.answer.now g.args.modes (handed_out (length (filter_map ask_given h)) y.ready) y.waiting y.request k t)

pub refuse-requires : goal.refuse-requires
refuse-requires g =
    let (c, h, s, p) = g.requires in
    let x = p.0 in
    let k = p.1 in
    let y = g.args.self.now in
    let a = account c h in
    let part = g.args.answer.now in
    let n = length (filter_map ask_given h) in
    let ends = filter_map end_given h in
    let t = s.ties.request in
    let v = s.ties.response in
    let m = handed_out n y.ready in
    let l = k.heard.live in
    let (s', z, q) = g.in-Err.ensures.unchanged t.story t.stands (story_unreleased c h Request m y.waiting y.request t s.right l k.to.unreleased) in
    let u = request_kept c a n ends y g.answer.new.self s.ties (flow_kept c Request a m y.waiting y.request g.answer.new.self t s' z q g.answer.ensures.marks) in
    (c, a, n, ends, u)

pub returns-in_err-refuse-clause-failed : goal.returns-in_err-refuse-clause-failed
returns-in_err-refuse-clause-failed g c h x s k =
    let y = g.args.self.now in
    let a = account c h in
    let part = g.args.answer.now in
    let n = length (filter_map ask_given h) in
    let ends = filter_map end_given h in
    let t = s.ties.request in
    let v = s.ties.response in
    let m = handed_out n y.ready in
    let l = k.heard.live in
    let (s', z, q) = g.in-Err.ensures.unchanged t.story t.stands (story_unreleased c h Request m y.waiting y.request t s.right l k.to.unreleased) in
    let u = request_kept c a n ends y g.answer.new.self s.ties (flow_kept c Request a m y.waiting y.request g.answer.new.self t s' z q g.answer.ensures.marks) in
    on_err g.from_residual.result
    (subst (IsAfter c (Failed ∷ h)) (sym g.in_err-refuse.ensures.failed) (record { right = (s.right, tt); made = record { sizes = s.made.sizes; settings = s.made.settings }; ties = u }))

pub returns-in-Err-clause-stands : goal.returns-in-Err-clause-stands
returns-in-Err-clause-stands g c h x s k =
    let y = g.args.self.now in
    let a = account c h in
    let part = g.args.answer.now in
    let n = length (filter_map ask_given h) in
    let ends = filter_map end_given h in
    let t = s.ties.request in
    let v = s.ties.response in
    let m = handed_out n y.ready in
    let l = k.heard.live in
    let (s', z, q) = g.in-Err.ensures.unchanged t.story t.stands (story_unreleased c h Request m y.waiting y.request t s.right l k.to.unreleased) in
    let u = request_kept c a n ends y g.answer.new.self s.ties (flow_kept c Request a m y.waiting y.request g.answer.new.self t s' z q g.answer.ensures.marks) in
    let b = unsettled c (Answered (Some x)) a in
    stands_next c (Answered (Some x)) h y g.refuse.new.self s tt g.refuse.ensures.settings l
    (g.in_ok-refuse.ensures.ties c a b n ends (record { sizes = s.made.sizes; settings = s.made.settings }) u
    (g.is_committed-committed.ensures s.ties.response.story.past s.ties.response.stands.half ∙ committed_in c a m y.waiting y.response s.ties.response l) (g.given_whole-given.ensures c a a a n ends s.ties l refl)
    (refused_to c h x Request part g.args.modes m y.waiting y.request g.in-Err.fault s.right k t
    (g.in-Err.ensures.refused t.story t.stands (story_unreleased c h Request m y.waiting y.request t s.right l k.to.unreleased))))

pub returns-then-over_limit-clause-stands : goal.returns-then-over_limit-clause-stands
returns-then-over_limit-clause-stands g c h x s k =
    let y = g.args.self.now in
    let a = account c h in
    let part = g.args.answer.now in
    let n = length (filter_map ask_given h) in
    let ends = filter_map end_given h in
    let t = s.ties.request in
    let v = s.ties.response in
    let m = handed_out n y.ready in
    let l = k.heard.live in
    let i = modes_are c h x Request part g.args.modes g.overrides-both.result g.of_request.result k (g.overrides-both.ensures c s.made.settings.allow_override) Request g.of_request.ensures in
    let o = took c h x Request part g.args.modes m y.waiting y.request g.answer.new.self g.of_request.result k t i (g.in_default.ensures.taken t.story t.stands)
    (g.in_default.ensures.stands t.story t.stands (story_unreleased c h Request m y.waiting y.request t s.right l k.to.unreleased) (may_answer c h x Request part g.args.modes m y.waiting y.request k t)) in
    let b = unsettled c (Answered (Some x)) a in
    let given = g.given_whole-given.ensures c a a a n ends s.ties l refl in
    let r = over_rests c h x y g.answer.new.self y.response 413 g.is_committed-committed.result g.given_whole-given.result l s.ties
    (g.is_committed-committed.ensures s.ties.response.story.past s.ties.response.stands.half ∙ committed_in c a m y.waiting y.response s.ties.response l) given
    (left_heard c Request a a m y.waiting y.request g.answer.new.self _ l t o.story o.heard o.stands g.answer.ensures.marks)
    (left_of c Response a a m y.waiting y.response l v)
    (ends_over c h x Request part g.args.modes m y.waiting y.request y.response s.right k t v o.accepted o.story o.heard (sym (g.over_limit.ensures o.story.past o.stands.half) ∙ g.if-over_limit.true)) in
    stands_next c (Answered (Some x)) h y g.settle_ending.new.self s tt
    (g.settle_ending.ensures.settings ∙ ap (λ q. q.settings) g.reply.ensures ∙ replied_settings 413 g.is_committed-committed.result g.given_whole-given.result (record y { request = g.answer.new.self })) l
    (g.settle_ending.ensures.ends c b n ends (subst (AtRest c b n ends) (sym g.reply.ensures) r))

pub settle-requires : goal.settle-requires
settle-requires g =
    let (c, h, s, p) = g.requires in
    let x = p.0 in
    let k = p.1 in
    let y = g.args.self.now in
    let a = account c h in
    let part = g.args.answer.now in
    let n = length (filter_map ask_given h) in
    let ends = filter_map end_given h in
    let t = s.ties.request in
    let v = s.ties.response in
    let m = handed_out n y.ready in
    let l = k.heard.live in
    let i = modes_are c h x Request part g.args.modes g.overrides-both.result g.of_request.result k (g.overrides-both.ensures c s.made.settings.allow_override) Request g.of_request.ensures in
    let o = took c h x Request part g.args.modes m y.waiting y.request g.answer.new.self g.of_request.result k t i (g.in_default.ensures.taken t.story t.stands)
    (g.in_default.ensures.stands t.story t.stands (story_unreleased c h Request m y.waiting y.request t s.right l k.to.unreleased) (may_answer c h x Request part g.args.modes m y.waiting y.request k t)) in
    let j = modes_are c h x Request part g.args.modes g.overrides-both.result g.of_response-other.result k (g.overrides-both.ensures c s.made.settings.allow_override) Response g.of_response-other.ensures in
    (v.story, v.stands, may_settle_early c h x part g.args.modes m y.waiting y.response g.of_response-other.result g.is_some.result s.right k o.accepted v j g.is_some.ensures)

pub overflow_sub-made : goal.overflow_sub-made
overflow_sub-made g =
    let (c, h, s, p) = g.requires in
    let x = p.0 in
    let k = p.1 in
    let y = g.args.self.now in
    let a = account c h in
    let part = g.args.answer.now in
    let n = length (filter_map ask_given h) in
    let ends = filter_map end_given h in
    let t = s.ties.request in
    let v = s.ties.response in
    let m = handed_out n y.ready in
    let l = k.heard.live in
    let i = modes_are c h x Request part g.args.modes g.overrides-both.result g.of_request.result k (g.overrides-both.ensures c s.made.settings.allow_override) Request g.of_request.ensures in
    let o = took c h x Request part g.args.modes m y.waiting y.request g.answer.new.self g.of_request.result k t i (g.in_default.ensures.taken t.story t.stands)
    (g.in_default.ensures.stands t.story t.stands (story_unreleased c h Request m y.waiting y.request t s.right l k.to.unreleased) (may_answer c h x Request part g.args.modes m y.waiting y.request k t)) in
    let e = no_cut_so c h x Request part g.args.modes m y.waiting y.request y.response s.right k t v o.accepted o.story o.heard (sym (g.over_limit.ensures o.story.past o.stands.half) ∙ g.if-over_limit.false) in
    let j = modes_are c h x Request part g.args.modes g.overrides-both.result g.of_response-other.result k (g.overrides-both.ensures c s.made.settings.allow_override) Response g.of_response-other.ensures in
    let w = subst (λ b. FlowStands (settled_with b g.of_response-other.result v.story) g.settle.new.self) g.is_some.ensures
    (g.settle.ensures.stands v.story v.stands (may_settle_early c h x part g.args.modes m y.waiting y.response g.of_response-other.result g.is_some.result s.right k o.accepted v j g.is_some.ensures)) in
    let r = request_goes c h x part g.args.modes y g.answer.new.self g.settle.new.self g.of_response-other.result g.unhanded-before.result g.unhanded.result s k e o.accepted o.story o.heard o.stands
    g.answer.ensures.marks (sym (g.over_limit.ensures o.story.past o.stands.half) ∙ g.if-over_limit.false) j w g.settle.ensures.marks g.unhanded-before.ensures g.unhanded.ensures in
    r.less

pub request_asked-requires : goal.request_asked-requires
request_asked-requires g =
    let (c, h, s, p) = g.requires in
    let x = p.0 in
    let k = p.1 in
    let y = g.args.self.now in
    let a = account c h in
    let part = g.args.answer.now in
    let n = length (filter_map ask_given h) in
    let ends = filter_map end_given h in
    let t = s.ties.request in
    let v = s.ties.response in
    let m = handed_out n y.ready in
    let l = k.heard.live in
    let i = modes_are c h x Request part g.args.modes g.overrides-both.result g.of_request.result k (g.overrides-both.ensures c s.made.settings.allow_override) Request g.of_request.ensures in
    let o = took c h x Request part g.args.modes m y.waiting y.request g.answer.new.self g.of_request.result k t i (g.in_default.ensures.taken t.story t.stands)
    (g.in_default.ensures.stands t.story t.stands (story_unreleased c h Request m y.waiting y.request t s.right l k.to.unreleased) (may_answer c h x Request part g.args.modes m y.waiting y.request k t)) in
    let e = no_cut_so c h x Request part g.args.modes m y.waiting y.request y.response s.right k t v o.accepted o.story o.heard (sym (g.over_limit.ensures o.story.past o.stands.half) ∙ g.if-over_limit.false) in
    let j = modes_are c h x Request part g.args.modes g.overrides-both.result g.of_response-other.result k (g.overrides-both.ensures c s.made.settings.allow_override) Response g.of_response-other.ensures in
    let w = subst (λ b. FlowStands (settled_with b g.of_response-other.result v.story) g.settle.new.self) g.is_some.ensures
    (g.settle.ensures.stands v.story v.stands (may_settle_early c h x part g.args.modes m y.waiting y.response g.of_response-other.result g.is_some.result s.right k o.accepted v j g.is_some.ensures)) in
    let r = request_goes c h x part g.args.modes y g.answer.new.self g.settle.new.self g.of_response-other.result g.unhanded-before.result g.unhanded.result s k e o.accepted o.story o.heard o.stands
    g.answer.ensures.marks (sym (g.over_limit.ensures o.story.past o.stands.half) ∙ g.if-over_limit.false) j w g.settle.ensures.marks g.unhanded-before.ensures g.unhanded.ensures in
    r.few

pub returns-clause-stands : goal.returns-clause-stands
returns-clause-stands g c h x s k =
    let y = g.args.self.now in
    let a = account c h in
    let part = g.args.answer.now in
    let n = length (filter_map ask_given h) in
    let ends = filter_map end_given h in
    let t = s.ties.request in
    let v = s.ties.response in
    let m = handed_out n y.ready in
    let l = k.heard.live in
    let i = modes_are c h x Request part g.args.modes g.overrides-both.result g.of_request.result k (g.overrides-both.ensures c s.made.settings.allow_override) Request g.of_request.ensures in
    let o = took c h x Request part g.args.modes m y.waiting y.request g.answer.new.self g.of_request.result k t i (g.in_default.ensures.taken t.story t.stands)
    (g.in_default.ensures.stands t.story t.stands (story_unreleased c h Request m y.waiting y.request t s.right l k.to.unreleased) (may_answer c h x Request part g.args.modes m y.waiting y.request k t)) in
    let e = no_cut_so c h x Request part g.args.modes m y.waiting y.request y.response s.right k t v o.accepted o.story o.heard (sym (g.over_limit.ensures o.story.past o.stands.half) ∙ g.if-over_limit.false) in
    let j = modes_are c h x Request part g.args.modes g.overrides-both.result g.of_response-other.result k (g.overrides-both.ensures c s.made.settings.allow_override) Response g.of_response-other.ensures in
    let w = subst (λ b. FlowStands (settled_with b g.of_response-other.result v.story) g.settle.new.self) g.is_some.ensures
    (g.settle.ensures.stands v.story v.stands (may_settle_early c h x part g.args.modes m y.waiting y.response g.of_response-other.result g.is_some.result s.right k o.accepted v j g.is_some.ensures)) in
    let r = request_goes c h x part g.args.modes y g.answer.new.self g.settle.new.self g.of_response-other.result g.unhanded-before.result g.unhanded.result s k e o.accepted o.story o.heard o.stands
    g.answer.ensures.marks (sym (g.over_limit.ensures o.story.past o.stands.half) ∙ g.if-over_limit.false) j w g.settle.ensures.marks g.unhanded-before.ensures g.unhanded.ensures in
    let b = unsettled c (Answered (Some x)) a in
    stands_next c (Answered (Some x)) h y g.settle_ending-2.new.self s tt (g.settle_ending-2.ensures.settings ∙ ap (λ q. q.settings) g.request_asked.ensures) l
    (g.settle_ending-2.ensures.ends c b n ends (subst (AtRest c b n ends) (sym g.request_asked.ensures) r.ties))
