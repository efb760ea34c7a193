use Rattle.exchange.proofs.EndingSettled.{settled_ending}
use Rattle.exchange.proofs.exchange.Exchange.settle_ending.Goals as goal

pub returns-clause-ends : goal.returns-clause-ends
returns-clause-ends c f a n ends t = settled_ending f a n ends c.args.self.now c.ending_now-ending.result t (c.ending_now-ending.ensures f a n ends t)
