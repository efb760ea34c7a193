use Rattle.filter_model.specs.Right.{Took}
use Rattle.exchange_driver.proofs.Driven.{goes_on}
use Rattle.exchange_driver.proofs.driver.Driver.take.Goals as goal

pub invariant_of-self : goal.invariant_of-self
invariant_of-self c =
    let s = c.self.invariant in
    goes_on c.self.inside.exchange c.take.new.self c.self.inside.answer_limit c.self.inside.spent s (Took c.args.side c.in-Ok.taken) (c.in-Ok.ensures.stands s.config s.history s.stands) tt
