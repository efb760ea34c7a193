use Rattle.std.proofs.Common.{◌∙◌, refl, subst, sym}
use Rattle.exchange.specs.Answering.{EndsTo, fate_by}
use Rattle.exchange.specs.Stands.{handed_out}
use Rattle.exchange.proofs.AnsweringEnds.{replied_so}
use Rattle.exchange.proofs.TimingTies.{aborted_so, committed_in}
use Rattle.exchange.proofs.exchange.Exchange.reply_with.Goals as goal

pub returns-then-is_committed-clause-ties : goal.returns-then-is_committed-clause-ties
returns-then-is_committed-clause-ties c = λ k a b n ends t e.
    let x = c.args.self.now in
    let q = sym (c.is_committed.ensures t.response.story.past t.response.stands.half ∙ committed_in k a (handed_out n x.ready) x.waiting x.response t.response e.live) ∙ c.if-is_committed.true in
    c.settle_ending.ensures.ends k b n ends
    (aborted_so k c.given_whole-given.result a b n ends x t (subst (λ z. EndsTo k (fate_by z c.args.bytes) a b) q e) (c.given_whole-given.ensures k a a a n ends t e.live refl))

pub returns-clause-ties : goal.returns-clause-ties
returns-clause-ties c = λ k a b n ends t e.
    let x = c.args.self.now in
    let q = sym (c.is_committed.ensures t.response.story.past t.response.stands.half ∙ committed_in k a (handed_out n x.ready) x.waiting x.response t.response e.live) ∙ c.if-is_committed.false in
    c.settle_ending-2.ensures.ends k b n ends
    (replied_so k c.args.bytes c.given_whole-given.result a b n ends x c.reply.new.self t e q (c.given_whole-given.ensures k a a a n ends t e.live refl) c.reply.ensures)
