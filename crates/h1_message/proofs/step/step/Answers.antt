use Rattle.std.proofs.Common.{sym, subst}
use Rattle.h1_message.specs.Stages.{Stands}
use Rattle.h1_message.specs.declared.stage.Stage.TheVariants.{Unbegun, Head}
use Rattle.h1_message.proofs.StageLaw.{none_there, no_bytes, still_begun, told_some, told_none, told_short, no_head_steps, no_body_steps, whole_steps, Steps}
use Rattle.h1_message.proofs.step.step.Goals as goal

pub returns-then-is_empty-clause-gives : goal.returns-then-is_empty-clause-gives
returns-then-is_empty-clause-gives c s w =
    let none = none_there c.args.bytes.now c.if-is_empty.ensures in
    subst (Steps s c.args.bytes.now (Unbegun c.in-Unbegun.direction c.in-Unbegun.to_head)) (sym c.nothing.ensures)
    (no_bytes s c.in-Unbegun.direction c.in-Unbegun.to_head c.args.bytes.now none (rw c.in-Unbegun.is at w))

pub returns-in-Some-clause-gives : goal.returns-in-Some-clause-gives
returns-in-Some-clause-gives c s w =
    let at : Stands s (Head c.in-Head.reader) = rw c.in-Head.is at w in
    told_some s c.in-Head.reader c.feed_head.new.reader c.args.bytes.now c.in_ok-fed-in-Head.fed c.told-next.result c.in-Some.next
    at.is c.in_ok-fed-in-Head.ensures.fed c.told-next.ensures c.in-Some.is (still_begun s.brought c.args.bytes.now (sym at.begun))

pub returns-in-Some-clause-short : goal.returns-in-Some-clause-short
returns-in-Some-clause-short c =
    rw (c.told-next.ensures) (told_short c.in-Head.reader c.feed_head.new.reader c.args.bytes.now c.in_ok-fed-in-Head.fed c.in_ok-fed-in-Head.ensures.fed)

pub returns-in-None-clause-gives : goal.returns-in-None-clause-gives
returns-in-None-clause-gives c s w =
    let at : Stands s (Head c.in-Head.reader) = rw c.in-Head.is at w in
    told_none s c.in-Head.reader c.feed_head.new.reader c.args.bytes.now c.in_ok-fed-in-Head.fed c.told-next.result
    at.is c.in_ok-fed-in-Head.ensures.fed c.told-next.ensures c.in-None.is (still_begun s.brought c.args.bytes.now (sym at.begun))

pub returns-in-NoHead-clause-gives : goal.returns-in-NoHead-clause-gives
returns-in-NoHead-clause-gives c s w =
    rw (c.in-NoHead.is, c.nothing-in-NoHead.ensures) (no_head_steps s c.args.bytes.now c.in-NoHead.field-0 (rw c.in-NoHead.is at w))

pub returns-in-NoBody-clause-gives : goal.returns-in-NoBody-clause-gives
returns-in-NoBody-clause-gives c s w =
    rw (c.in-NoBody.is, c.nothing-in-NoBody.ensures) (no_body_steps s c.args.bytes.now c.in-NoBody.field-0 (rw c.in-NoBody.is at w))

pub returns-in-Whole-clause-gives : goal.returns-in-Whole-clause-gives
returns-in-Whole-clause-gives c s w =
    rw (c.in-Whole.is, c.nothing-in-Whole.ensures) (whole_steps s c.args.bytes.now (rw c.in-Whole.is at w))
