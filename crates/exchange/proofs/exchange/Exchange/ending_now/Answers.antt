use Rattle.std.proofs.Common.{rules}
use Rattle.exchange.proofs.EndingSettled.{ending_is}
use Rattle.exchange.proofs.exchange.Exchange.ending_now.Goals as goal

pub returns : goal.returns
returns c f a n ends t = ending_is f a n ends c.args.self.now c.ending_due-ending.result t (search rules) (search rules) (search rules) (c.ending_due-ending.ensures f a n ends t)
