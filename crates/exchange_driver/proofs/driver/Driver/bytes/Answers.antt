use Rattle.trace_model.proofs.May.{may_bytes}
use Rattle.exchange_driver.proofs.Driven.{goes_on}
use Rattle.exchange_driver.proofs.driver.Driver.bytes.Goals as goal

pub invariant_of-self : goal.invariant_of-self
invariant_of-self c =
    let s = c.self.invariant in
    let may = may_bytes s.config s.history c.args.side c.args.bytes (s.ready c.if-self.false) in
    goes_on c.self.inside.exchange c.step.new.self c.self.inside.answer_limit c.self.inside.spent s _ (c.in-Ok.ensures.stands s.config s.history s.stands may) tt
