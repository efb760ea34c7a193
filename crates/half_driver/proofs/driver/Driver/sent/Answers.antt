use Rattle.std.proofs.Common.{rules, arith, ◌<◌}
use Rattle.filter_model.specs.Half.{Sent, Told, after_step}
use Rattle.half_driver.proofs.Driven.{sent}
use Rattle.half_driver.proofs.driver.Driver.sent.Goals as goal

pub invariant_of-self : goal.invariant_of-self
invariant_of-self c =
    let x = c.self.inside in
    let p = c.self.invariant.0 in
    let s = c.self.invariant.1 in
    let f = c.self.invariant.2 in
    let g = f.sends in
    let more : 0 < x.unsent = search rules in
    (after_step (Told Sent) p, c.sent.ensures p s (record { fewer = omega arith }), sent x.read x.unfinished x.unsent x.waiting p more f, c.self.invariant.3)
