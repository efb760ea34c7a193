use Rattle.std.proofs.Common.{inl}
use Rattle.filter_model.specs.Half.{Settle, Told, after_step}
use Rattle.half_driver.proofs.Driven.{settled}
use Rattle.half_driver.proofs.driver.Driver.settle.Goals as goal

pub invariant_of-self : goal.invariant_of-self
invariant_of-self c =
    let x = c.self.inside in
    let p = c.self.invariant.0 in
    let s = c.self.invariant.1 in
    let f = c.self.invariant.2 in
    (after_step (Told (Settle c.args.modes)) p, c.settle.ensures p s (record { early = inl (f.unread c.if-self.false) }), settled x.read x.unfinished x.unsent x.waiting p c.args.modes f, c.self.invariant.3)
