use Rattle.std.proofs.Common.{subst, sym}
use Rattle.http_model.specs.Wire.{local_reply}
use Rattle.exchange.specs.Answering.{EndsTo, RefusedTo, fate_by}
use Rattle.exchange.specs.Stands.{AtRest}
use Rattle.exchange.proofs.AnsweringEnds.{refusal_fails}
use Rattle.exchange.proofs.TimingTies.{ends_by}
use Rattle.exchange.proofs.exchange.Exchange.refuse.Goals as goal

pub returns-in-Spurious-clause-ties : goal.returns-in-Spurious-clause-ties
returns-in-Spurious-clause-ties c = λ k a b n ends m t q g r.
    c.fail.ensures.ties k a b n ends m t (refusal_fails k a b c.args.fault c.in-Spurious.is r)

pub returns-in-Disallowed-clause-ties : goal.returns-in-Disallowed-clause-ties
returns-in-Disallowed-clause-ties c = λ k a b n ends m t q g r.
    c.settle_ending.ensures.ends k b n ends
    (subst (λ y. AtRest k b n ends y) (sym c.reply.ensures)
    (ends_by k 500 c.args.committed c.args.given a b n ends c.args.self.now t
    (subst (λ z. EndsTo k (fate_by z (local_reply 500)) a b) (sym q) (subst (λ f. RefusedTo k f a b) c.in-Disallowed.is r)) g))
