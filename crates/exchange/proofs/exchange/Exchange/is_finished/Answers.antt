use Rattle.exchange.proofs.Wholly.{both_given, not_both}
use Rattle.exchange.proofs.exchange.Exchange.is_finished.Goals as goal

pub returns-then-given : goal.returns-then-given
returns-then-given g c q r a n ends t l e = both_given c a g.given_whole-given.result (g.given_whole-given.ensures c q r a n ends t l e) g.if-given.true

pub returns-else-given : goal.returns-else-given
returns-else-given g c q r a n ends t l e = not_both c a g.given_whole-given.result (g.given_whole-given.ensures c q r a n ends t l e) g.if-given.false
