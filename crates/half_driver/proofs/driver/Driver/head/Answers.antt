use Rattle.std.proofs.Common.{ap, subst}
use Rattle.std.specs.Prelude.{not}
use Rattle.filter_model.specs.Half.{Head, Told, after_step}
use Rattle.half_driver.specs.Driving.{Follows}
use Rattle.half_driver.proofs.Driven.{headed}
use Rattle.half_driver.proofs.driver.Driver.head.Goals as goal

pub invariant_of-self : goal.invariant_of-self
invariant_of-self c =
    let x = c.self.inside in
    let p = c.self.invariant.0 in
    let s = c.self.invariant.1 in
    let f = c.self.invariant.2 in
    let h = c.args.fields in
    let n = c.args.length in (
      after_step (Told (Head h n)) p,
      c.head.ensures p s (record { once = f.unread c.if-self.false }),
      headed x.unfinished (not c.is_bodiless.result) x.unsent x.waiting p h n (ap not c.is_bodiless.ensures) (subst (λ b. Follows b x.unfinished x.unsent x.waiting p) c.if-self.false f),
      c.self.invariant.3,
    )
