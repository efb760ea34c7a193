use Rattle.std.proofs.Common.{subst, sym}
use Rattle.filter_model.specs.Half.{Asked, after_step}
use Rattle.half_machine.specs.Handing.{after_ask}
use Rattle.half_machine.specs.Stands.{StandsFor}
use Rattle.half_driver.specs.Driving.{Driving, Follows}
use Rattle.half_driver.proofs.Driven.{asked}
use Rattle.half_driver.proofs.driver.Driver.next_ask.Goals as goal

pub invariant_of-self : goal.invariant_of-self
invariant_of-self c =
    let x = c.self.inside in
    subst (λ h. Driving h x.read x.unfinished x.unsent x.waiting x.answer_limit) (sym c.in_err-ask.ensures.unchanged) c.self.invariant

pub invariant_of-self-2 : goal.invariant_of-self-2
invariant_of-self-2 c =
    let x = c.self.inside in
    let p = c.self.invariant.0 in
    let s = c.self.invariant.1 in
    let f = c.self.invariant.2 in (
      after_step Asked p,
      subst (λ o. StandsFor (after_ask o p) c.next_ask.new.self) c.in-Some.is (c.in_ok-ask.ensures.stands p s),
      subst (λ n. Follows x.read x.unfinished n x.waiting (after_step Asked p)) (sym c.saturating_add-self-inside.ensures) (asked x.read x.unfinished x.unsent x.waiting p f),
      c.self.invariant.3,
    )
