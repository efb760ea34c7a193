use Rattle.h1_message.proofs.StageLaw.{begins, some_begun, told_some, told_none}
use Rattle.h1_message.proofs.step.begin.Goals as goal

pub returns-in-Some-clause-gives : goal.returns-in-Some-clause-gives
returns-in-Some-clause-gives c s u =
    told_some s c.in_ok-reader.reader c.feed_head.new.reader c.args.bytes.now c.in_ok-fed.fed c.told-next.result c.in-Some.stage
    (begins s c.args.direction c.args.to_head c.in_ok-reader.reader u c.in_ok-reader.ensures) c.in_ok-fed.ensures.fed c.told-next.ensures c.in-Some.is
    (some_begun s.brought c.args.bytes.now u.none c.requires.some)

pub returns-in-None-clause-gives : goal.returns-in-None-clause-gives
returns-in-None-clause-gives c s u =
    told_none s c.in_ok-reader.reader c.feed_head.new.reader c.args.bytes.now c.in_ok-fed.fed c.told-next.result
    (begins s c.args.direction c.args.to_head c.in_ok-reader.reader u c.in_ok-reader.ensures) c.in_ok-fed.ensures.fed c.told-next.ensures c.in-None.is
    (some_begun s.brought c.args.bytes.now u.none c.requires.some)
