use Rattle.std.proofs.Common.{refl, sym, ◌∙◌, ap, subst, length}
use Rattle.std.specs.Prelude.{filter_map}
use Rattle.http_model.specs.declared.types.Direction.TheVariants.{Request, Response}
use Rattle.filter_model.specs.Account.{gathered}
use Rattle.filter_model.specs.Right.{account, ask_given, end_given}
use Rattle.filter_model.specs.declared.calls.Side.TheVariants.{Client}
use Rattle.h1_message.specs.Source.{original}
use Rattle.exchange.specs.Answering.{unsettled}
use Rattle.exchange.specs.Stands.{AtRest}
use Rattle.exchange.proofs.ReadingGoes.{few_more, goes_rest, more_of, other_asks, other_ties, told_ties}
use Rattle.exchange.proofs.ReadingHeard.{cut_by, idle_as, made_as, no_cut_by, not_fewer, over_as, replied_settings, request_faults}
use Rattle.exchange.proofs.ReadingRests.{left_heard, left_of}
use Rattle.exchange.proofs.ReadingSides.{cut_rests, may_learn}
use Rattle.exchange.proofs.TimingSteps.{stands_for}
use Rattle.exchange.proofs.exchange.Exchange.request_heard.Goals as goal

pub tell-requires : goal.tell-requires
tell-requires c =
    let y = c.requires.3 in
    let t = y.ties.request in
    (t.story, t.stands, may_learn c.requires.0 c.requires.1 Client c.requires.2 c.args.news _ c.args.self.now _ _ c.args.self.now.request y t)

pub returns-in-Some : goal.returns-in-Some
returns-in-Some c k h e y b =
    let x = c.args.self.now in
    let n = c.args.news in
    let a = account k h in
    let g = gathered e a in
    let t = y.ties.request in
    let l = c.tell.ensures.stands t.story t.stands (may_learn k h Client e n _ x _ _ x.request y t) in
    let o = over_as k h Client e n x x.request _ _ y t l.0 l.2 c.over_limit-over.result (c.over_limit-over.ensures l.0.past l.1.half) in
    let f = request_faults g c.request_fault-fault.result (c.request_fault-fault.ensures g.request.course.original.fault y.is_news.fault y.is_news.spoken) in
    let u = cut_by k h Client e n x c.args.finished c.over_limit-over.result 413 c.in-Some.status c.request_fault-fault.result y b.both o (λ t. refl) f (sym c.cut_status.ensures ∙ c.in-Some.is) in
    let p = left_heard k Request g a _ x.waiting x.request c.tell.new.self _ y.live t l.0 l.2 l.1 c.tell.ensures.marks in
    let q = left_of k Response g a _ x.waiting x.response y.live y.ties.response in
    let r = cut_rests k h Client e n x c.tell.new.self x.response u.which c.in-Some.status c.args.finished c.args.committed c.args.given y b p q u.is u.ends u.reply in
    stands_for k h e x c.settle_ending.new.self y.right y.made
    (c.settle_ending.ensures.settings ∙ ap (λ z. z.settings) c.reply.ensures ∙ replied_settings c.in-Some.status c.args.committed c.args.given (record x { request = c.tell.new.self })) y.live
    (c.settle_ending.ensures.ends k (unsettled k e a) (length (filter_map ask_given h)) (filter_map end_given h)
    (subst (AtRest k (unsettled k e a) (length (filter_map ask_given h)) (filter_map end_given h)) (sym c.reply.ensures) r))

pub overflow_sub-made : goal.overflow_sub-made
overflow_sub-made c =
    let y = c.requires.3 in
    let x = c.args.self.now in
    let t = y.ties.request in
    let l = c.tell.ensures.stands t.story t.stands (may_learn c.requires.0 c.requires.1 Client c.requires.2 c.args.news _ x _ _ x.request y t) in
    not_fewer t.story l.0 (original t.story.source) l.2 c.unhanded-before.result c.unhanded.result (c.unhanded-before.ensures t.story.past t.stands.half) (c.unhanded.ensures l.0.past l.1.half)

pub request_asked-requires : goal.request_asked-requires
request_asked-requires c =
    let k = c.requires.0 in
    let h = c.requires.1 in
    let e = c.requires.2 in
    let y = c.requires.3 in
    let b = c.requires.4 in
    let x = c.args.self.now in
    let n = c.args.news in
    let a = account k h in
    let g = gathered e a in
    let t = y.ties.request in
    let l = c.tell.ensures.stands t.story t.stands (may_learn k h Client e n _ x _ _ x.request y t) in
    let o = over_as k h Client e n x x.request _ _ y t l.0 l.2 c.over_limit-over.result (c.over_limit-over.ensures l.0.past l.1.half) in
    let f = request_faults g c.request_fault-fault.result (c.request_fault-fault.ensures g.request.course.original.fault y.is_news.fault y.is_news.spoken) in
    let z = no_cut_by k h Client e n x c.args.finished c.over_limit-over.result 413 c.request_fault-fault.result y b.both o f (sym c.cut_status.ensures ∙ c.in_default.is) in
    let m = made_as k h Client e n x x.request _ _ y t l.0 l.2 z c.unhanded-before.result c.unhanded.result (c.unhanded-before.ensures t.story.past t.stands.half) (c.unhanded.ensures l.0.past l.1.half) in
    few_more k h Client e n g x _ y (more_of k Client e a _ y.reads z (other_asks k h Client e n x y z) m)

pub returns : goal.returns
returns c k h e y b =
    let x = c.args.self.now in
    let n = c.args.news in
    let a = account k h in
    let g = gathered e a in
    let t = y.ties.request in
    let l = c.tell.ensures.stands t.story t.stands (may_learn k h Client e n _ x _ _ x.request y t) in
    let o = over_as k h Client e n x x.request _ _ y t l.0 l.2 c.over_limit-over.result (c.over_limit-over.ensures l.0.past l.1.half) in
    let f = request_faults g c.request_fault-fault.result (c.request_fault-fault.ensures g.request.course.original.fault y.is_news.fault y.is_news.spoken) in
    let z = no_cut_by k h Client e n x c.args.finished c.over_limit-over.result 413 c.request_fault-fault.result y b.both o f (sym c.cut_status.ensures ∙ c.in_default.is) in
    let m = made_as k h Client e n x x.request _ _ y t l.0 l.2 z c.unhanded-before.result c.unhanded.result (c.unhanded-before.ensures t.story.past t.stands.half) (c.unhanded.ensures l.0.past l.1.half) in
    let more = more_of k Client e a _ y.reads z (other_asks k h Client e n x y z) m in
    let i = idle_as k Request g a _ x.waiting x.request t c.asks_out-idle.result (t.told y.live) (c.asks_out-idle.ensures t.story.past t.stands.half) in
    let v = told_ties k h Client e n x x.request c.tell.new.self _ y z t l.0 l.2 l.1 c.tell.ensures.marks i in
    let w = other_ties k h Client e n x x.response y z y.ties.response in
    let r = goes_rest k h Client e n x _ x.response _ y z more v w in
    stands_for k h e x c.settle_ending-2.new.self y.right y.made
    (c.settle_ending-2.ensures.settings ∙ ap (λ z. z.settings) c.request_asked.ensures) y.live
    (c.settle_ending-2.ensures.ends k (unsettled k e a) (length (filter_map ask_given h)) (filter_map end_given h)
    (subst (AtRest k (unsettled k e a) (length (filter_map ask_given h)) (filter_map end_given h)) (sym c.request_asked.ensures) r))
