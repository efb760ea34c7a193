use Rattle.std.proofs.Common.{◌∙◌, ap, subst, sym}
use Rattle.filter_model.specs.Outgoing.{immediate_reply}
use Rattle.exchange.specs.Answering.{EndsBy, is_invalid}
use Rattle.exchange.proofs.AnsweringEnds.{none_invalid, some_valid}
use Rattle.exchange.proofs.exchange.Exchange.immediate.Goals as goal

pub returns-then-self-clause-ties : goal.returns-then-self-clause-ties
returns-then-self-clause-ties c = λ k a b n ends m t i.
    c.fail.ensures.ties k a b n ends m t (i.denied (sym m.settings.no_immediate ∙ c.if-self.true))

pub returns-in-None-clause-ties : goal.returns-in-None-clause-ties
returns-in-None-clause-ties c = λ k a b n ends m t i.
    c.fail-in-None.ensures.ties k a b n ends m t
    (i.invalid (sym m.settings.no_immediate ∙ c.if-self.false)
    (none_invalid (is_invalid c.args.reply) (immediate_reply c.args.self.now.to_head c.args.reply) c.in_ok-bytes.bytes c.in_ok-bytes.ensures c.in-None.is))

pub returns-clause-ties : goal.returns-clause-ties
returns-clause-ties c = λ k a b n ends m t i.
    let v = some_valid (is_invalid c.args.reply) (immediate_reply c.args.self.now.to_head c.args.reply) c.in-Some.bytes c.in_ok-bytes.bytes c.in_ok-bytes.ensures c.in-Some.is in
    c.reply_with.ensures.ties k a b n ends t
    (subst (λ r. EndsBy k r a b) (ap (λ h. immediate_reply h c.args.reply) (sym t.to_head) ∙ v.1) (i.replied (sym m.settings.no_immediate ∙ c.if-self.false) v.0))
