use Rattle.std.proofs.Common.{sym, ◌∙◌, ap, subst}
use Rattle.std.specs.Prelude.{length, filter_map, drop, ◌-◌, ◌+◌, ◌≤◌, ◌==◌}
use Rattle.http_model.specs.declared.types.Direction.TheVariants.{Request}
use Rattle.filter_model.specs.Account.{gathered}
use Rattle.filter_model.specs.Right.{account, ask_given, end_given}
use Rattle.filter_model.specs.View as view
use Rattle.half_machine.specs.Stands as machine
use Rattle.exchange.specs.Answering.{unsettled}
use Rattle.exchange.specs.Moves.{request_noted}
use Rattle.exchange.specs.Stands.{AtRest}
use Rattle.exchange.proofs.AskingSent.{may_sent, one_waits, same_response, sends, stands_sent, waits_sent}
use Rattle.exchange.proofs.GivingTo.{SaysOut, SaysUnhanded}
use Rattle.exchange.proofs.Moving.{few_wait, request_moved}
use Rattle.exchange.proofs.exchange.Exchange.request_sent.Goals as goal

pub mark_sent-requires : goal.mark_sent-requires
mark_sent-requires g =
    let (c, h, s, k) = g.requires in
    one_waits c (account c h) (length (filter_map ask_given h)) (filter_map end_given h) g.args.self.now s.ties k.given

pub sent-requires : goal.sent-requires
sent-requires g =
    let (c, h, s, k) = g.requires in
    let x = g.args.self.now in
    let n = length (filter_map ask_given h) in
    let t = s.ties.request in
    (t.story.past, subst (λ z. machine.StandsFor t.story.past z.request.half) (sym g.mark_sent.ensures) t.stands.half, may_sent c h Request n x.ready x.waiting x.request t k.live k.given k.oldest)

pub overflow_sub-made : goal.overflow_sub-made
overflow_sub-made g =
    let (c, h, s, k) = g.requires in
    let x = g.args.self.now in
    let n = length (filter_map ask_given h) in
    let t = s.ties.request in
    let m = sends c h Request n x.ready x.waiting x.request g.sent.new.self g.unhanded-before.result g.unhanded.result g.asks_out-idle.result (s.right, k.given) t k.live k.given k.oldest
    (g.sent.ensures t.story.past (subst (λ z. machine.StandsFor t.story.past z.request.half) (sym g.mark_sent.ensures) t.stands.half) (may_sent c h Request n x.ready x.waiting x.request t k.live k.given k.oldest))
    (subst (λ z. SaysUnhanded g.unhanded-before.result z.request.half) g.mark_sent.ensures g.unhanded-before.ensures) g.unhanded.ensures
    (subst (λ z. SaysOut g.asks_out-idle.result z.request.half) g.mark_sent.ensures g.asks_out-idle.ensures) in
    m.less

pub request_asked-requires : goal.request_asked-requires
request_asked-requires g =
    let (c, h, s, k) = g.requires in
    let x = g.args.self.now in
    let n = length (filter_map ask_given h) in
    let t = s.ties.request in
    let m = sends c h Request n x.ready x.waiting x.request g.sent.new.self g.unhanded-before.result g.unhanded.result g.asks_out-idle.result (s.right, k.given) t k.live k.given k.oldest
    (g.sent.ensures t.story.past (subst (λ z. machine.StandsFor t.story.past z.request.half) (sym g.mark_sent.ensures) t.stands.half) (may_sent c h Request n x.ready x.waiting x.request t k.live k.given k.oldest))
    (subst (λ z. SaysUnhanded g.unhanded-before.result z.request.half) g.mark_sent.ensures g.unhanded-before.ensures) g.unhanded.ensures
    (subst (λ z. SaysOut g.asks_out-idle.result z.request.half) g.mark_sent.ensures g.asks_out-idle.ensures) in
    subst (λ z. length z.order + (g.unhanded.result - g.unhanded-before.result) ≤ 8) (sym g.mark_sent.ensures)
    (few_wait c Request _ (account c h) _ n (drop 1 x.order) (x.unsent - 1) _ m.onward (waits_sent c h Request n (filter_map end_given h) x s.ties k.given k.oldest m.onward) m.own.grown)

pub returns : goal.returns
returns g c h s k =
    let x = g.args.self.now in
    let n = length (filter_map ask_given h) in
    let t = s.ties.request in
    let m = sends c h Request n x.ready x.waiting x.request g.sent.new.self g.unhanded-before.result g.unhanded.result g.asks_out-idle.result (s.right, k.given) t k.live k.given k.oldest
    (g.sent.ensures t.story.past (subst (λ z. machine.StandsFor t.story.past z.request.half) (sym g.mark_sent.ensures) t.stands.half) (may_sent c h Request n x.ready x.waiting x.request t k.live k.given k.oldest))
    (subst (λ z. SaysUnhanded g.unhanded-before.result z.request.half) g.mark_sent.ensures g.unhanded-before.ensures) g.unhanded.ensures
    (subst (λ z. SaysOut g.asks_out-idle.result z.request.half) g.mark_sent.ensures g.asks_out-idle.ensures) in
    let b = unsettled c view.Sent (account c h) in
    stands_sent c h x g.settle_ending.new.self s k.live k.given
    (g.settle_ending.ensures.ends c b n (filter_map end_given h) (subst (AtRest c b n (filter_map end_given h)) (sym g.request_asked.ensures)
    (subst (λ z. AtRest c b n (filter_map end_given h) (request_noted (g.unhanded.result - g.unhanded-before.result) (g.asks_out-idle.result == 0) (record z { request = record z.request { half = g.sent.new.self } }))) (sym g.mark_sent.ensures)
    (request_moved c (gathered view.Sent (account c h)) (account c h) b n (filter_map end_given h) x (record x.request { half = g.sent.new.self }) (drop 1 x.order) (x.unsent - 1) _ _ s.ties m.onward
    s.made.settings.timeout_ms (waits_sent c h Request n (filter_map end_given h) x s.ties k.given k.oldest m.onward) m.own (same_response (account c h))))))
    (g.settle_ending.ensures.settings ∙ ap (λ y. y.settings) g.request_asked.ensures ∙ ap (λ y. y.settings) g.mark_sent.ensures)
