use Rattle.std.proofs.Common.{rules}
use Rattle.filter_model.specs.Half.{Bytes, Told, after_step}
use Rattle.half_driver.proofs.Driven.{fed, may_bytes}
use Rattle.half_driver.proofs.driver.Driver.data.Goals as goal

pub invariant_of-self : goal.invariant_of-self
invariant_of-self c =
    let x = c.self.inside in
    let p = c.self.invariant.0 in
    let s = c.self.invariant.1 in
    let f = c.self.invariant.2 in
    let b = c.args.bytes.now in (
      after_step (Told (Bytes b)) p,
      c.data.ensures p s (may_bytes p x.read x.unfinished x.unsent x.waiting b c.room.result f c.if-not-self.false (c.room.ensures p s) (search rules)),
      fed x.read x.unfinished x.unsent x.waiting p b f,
      c.self.invariant.3,
    )
