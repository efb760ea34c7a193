use Rattle.std.proofs.Common.{refl, sym, ◌∙◌, subst, ◌∷◌}
use Rattle.filter_model.specs.Right.{Stepped}
use Rattle.filter_model.specs.View.{Lost}
use Rattle.exchange.specs.Stands.{IsAfter}
use Rattle.exchange.proofs.TimingEvents.{lives}
use Rattle.exchange.proofs.TimingSteps.{stands_ended}
use Rattle.exchange.proofs.exchange.Exchange.lose.Goals as goal

pub returns-then-not-is_live : goal.returns-then-not-is_live
returns-then-not-is_live c k h s =
    stands_ended k (Lost c.args.side c.args.how) h c.args.self.now s tt (lives k h c.args.self.now c.is_live.result s c.is_live.ensures ∙ c.if-not-is_live.true) refl

pub returns-in-Client : goal.returns-in-Client
returns-in-Client c k h s =
    subst (λ d. IsAfter k (Stepped (Lost d c.args.how) ∷ h) c.client_lost.new.self) (sym c.in-Client.is)
    (c.client_lost.ensures k h c.args.how s (lives k h c.args.self.now c.is_live.result s c.is_live.ensures ∙ c.if-not-is_live.false))

pub returns-in-Upstream : goal.returns-in-Upstream
returns-in-Upstream c k h s =
    subst (λ d. IsAfter k (Stepped (Lost d c.args.how) ∷ h) c.upstream_lost.new.self) (sym c.in-Upstream.is)
    (c.upstream_lost.ensures k h s (lives k h c.args.self.now c.is_live.result s c.is_live.ensures ∙ c.if-not-is_live.false))
