use Rattle.filter_model.specs.Half.{Release, Told, after_step}
use Rattle.half_driver.proofs.Driven.{released}
use Rattle.half_driver.proofs.driver.Driver.release.Goals as goal

pub invariant_of-self : goal.invariant_of-self
invariant_of-self c =
    let x = c.self.inside in
    let p = c.self.invariant.0 in
    let s = c.self.invariant.1 in
    let f = c.self.invariant.2 in
    (after_step (Told Release) p, c.release.ensures p s, released x.read x.unfinished x.unsent x.waiting p f, c.self.invariant.3)
