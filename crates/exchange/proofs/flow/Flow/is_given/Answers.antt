use Rattle.std.proofs.Common.{sym, ◌∙◌}
use Rattle.exchange.proofs.Wholly.{not_where_left, whole_where_empty}
use Rattle.exchange.proofs.flow.Flow.is_given.Goals as goal

pub returns-then-is_empty : goal.returns-then-is_empty
returns-then-is_empty c s t e =
    c.is_all_handed.ensures s.past t.half
    ∙ whole_where_empty s c.args.self.now t e (sym (c.is_empty.ensures s.flowed t.outlet) ∙ c.if-is_empty.true)

pub returns-else-is_empty : goal.returns-else-is_empty
returns-else-is_empty c s t e =
    c.if-is_empty.false
    ∙ not_where_left s c.args.self.now t e (sym (c.is_empty.ensures s.flowed t.outlet) ∙ c.if-is_empty.false)
