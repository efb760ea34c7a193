use Rattle.std.proofs.Common.{◌∷◌}
use Rattle.filter_model.specs.Right.{Nexted, Stepped}
use Rattle.filter_model.specs.View.{Sent}
use Rattle.filter_model.specs.declared.calls.Next.TheVariants as next
use Rattle.trace_model.proofs.Histories.{may_sent}
use Rattle.exchange_driver.proofs.Driven.{goes_on}
use Rattle.exchange_driver.proofs.driver.Driver.next.Goals as goal

pub step-requires : goal.step-requires
step-requires c =
    let s = c.self.invariant in
    let after = rw c.in-Ok-Ask.field-0-is at c.in-Ok-Ask.ensures.stands s.config s.history s.stands in
    (s.config, Nexted (next.Ask c.in-Ok-Ask.ask) ∷ s.history, after, may_sent s.config s.history c.in-Ok-Ask.ask c.self.inside.exchange s.stands)

pub invariant_of-self : goal.invariant_of-self
invariant_of-self c =
    let s = c.self.invariant in
    let after = rw c.in-Ok-Ask.field-0-is at c.in-Ok-Ask.ensures.stands s.config s.history s.stands in
    let may = may_sent s.config s.history c.in-Ok-Ask.ask c.self.inside.exchange s.stands in
    record {
      config = s.config;
      history = Stepped Sent ∷ Nexted (next.Ask c.in-Ok-Ask.ask) ∷ s.history;
      stands = c.in-Ok-step.ensures.stands s.config (Nexted (next.Ask c.in-Ok-Ask.ask) ∷ s.history) after may;
      limits = s.limits;
      ready = λ e. tt;
    }

pub invariant_of-self-in-Ok : goal.invariant_of-self-in-Ok
invariant_of-self-in-Ok c =
    let s = c.self.invariant in
    goes_on c.self.inside.exchange c.next.new.self c.self.inside.answer_limit c.self.inside.spent s (Nexted c.in-Ok.next) (c.in-Ok.ensures.stands s.config s.history s.stands) tt
