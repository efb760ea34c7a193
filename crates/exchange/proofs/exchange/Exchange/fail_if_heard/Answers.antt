use Rattle.std.proofs.Common.{◌∙◌, refl, sym}
use Rattle.filter_model.specs.Account.{is_finished, is_released}
use Rattle.exchange.proofs.TimingEvents.{both_open, one_closed}
use Rattle.exchange.proofs.TimingTies.{stays}
use Rattle.exchange.proofs.exchange.Exchange.fail_if_heard.Goals as goal

pub returns-then-is_heard-clause-ties : goal.returns-then-is_heard-clause-ties
returns-then-is_heard-clause-ties c = λ k a b n ends m t f.
    let o = both_open (is_finished k a) (is_released a) (sym (c.is_heard.ensures k a a a n ends t f.live refl) ∙ c.if-is_heard.true) in
    c.fail.ensures.ties k a b n ends m t (f.heard o.0 o.1)

pub returns-clause-ties : goal.returns-clause-ties
returns-clause-ties c = λ k a b n ends m t f.
    c.settle_ending.ensures.ends k b n ends
    (stays k a b n ends c.args.self.now t (f.idle (one_closed (is_finished k a) (is_released a) (sym (c.is_heard.ensures k a a a n ends t f.live refl) ∙ c.if-is_heard.false))))
