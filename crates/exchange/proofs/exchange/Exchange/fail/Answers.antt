use Rattle.std.proofs.Common.{◌∙◌, refl, subst, sym}
use Rattle.http_model.specs.Wire.{local_reply}
use Rattle.exchange.specs.Answering.{EndsTo, fate_by}
use Rattle.exchange.specs.Stands.{AtRest, handed_out}
use Rattle.exchange.proofs.TimingTies.{committed_in, ends_by}
use Rattle.exchange.proofs.exchange.Exchange.fail.Goals as goal

pub returns-then-self-clause-ties : goal.returns-then-self-clause-ties
returns-then-self-clause-ties c = λ k a b n ends m t f.
    c.settle_ending.ensures.ends k b n ends (c.let_pass.ensures.passes k a b n ends t (f.passes (sym m.settings.failure_allow ∙ c.if-self.true)))

pub returns-clause-ties : goal.returns-clause-ties
returns-clause-ties c = λ k a b n ends m t f.
    let x = c.args.self.now in
    let e = f.ends (sym m.settings.failure_allow ∙ c.if-self.false) in
    let q = c.is_committed-committed.ensures t.response.story.past t.response.stands.half ∙ committed_in k a (handed_out n x.ready) x.waiting x.response t.response e.live in
    c.settle_ending-2.ensures.ends k b n ends
    (subst (λ y. AtRest k b n ends y) (sym c.reply.ensures)
    (ends_by k c.args.status c.is_committed-committed.result c.given_whole-given.result a b n ends x t
    (subst (λ z. EndsTo k (fate_by z (local_reply c.args.status)) a b) (sym q) e)
    (c.given_whole-given.ensures k a a a n ends t e.live refl)))
