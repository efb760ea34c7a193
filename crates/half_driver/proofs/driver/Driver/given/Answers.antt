use Rattle.std.proofs.Common.{rules, arith, ◌≤◌, ◌≡◌}
use Rattle.filter_model.specs.Half.{Given, Told, after_step}
use Rattle.half_driver.proofs.Driven.{given}
use Rattle.half_driver.proofs.driver.Driver.given.Goals as goal

pub invariant_of-self : goal.invariant_of-self
invariant_of-self c =
    let x = c.self.inside in
    let p = c.self.invariant.0 in
    let s = c.self.invariant.1 in
    let f = c.self.invariant.2 in
    let g = f.gives in
    let few : c.from-size.result ≤ x.waiting = search rules in
    let same : c.from-size.result ≡ c.args.n = c.from-size.ensures in
    (after_step (Told (Given c.args.n)) p, c.given.ensures p s (record { fewer = omega arith }), given x.read x.unfinished x.unsent x.waiting p c.args.n c.from-size.result same few f, c.self.invariant.3)
