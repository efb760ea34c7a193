use Rattle.exchange.proofs.Hearing.{data_told, first_may, some_there}
use Rattle.exchange.proofs.flow.Flow.tell_rest.Goals as goal

pub returns-then-not-is_empty-clause-stands : goal.returns-then-not-is_empty-clause-stands
returns-then-not-is_empty-clause-stands c s f y =
    let e = some_there c.args.bytes.now c.if-not-is_empty.ensures in
    data_told s c.args.self.now c.data.new.self c.args.whole c.args.trailers c.args.bytes.now f y c.if-whole.false e
    (c.data.ensures s.past f.half (first_may s c.args.whole c.args.trailers c.args.bytes.now y c.if-whole.false e))
