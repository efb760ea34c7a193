use Rattle.std.proofs.Common.{arith}
use Rattle.trace_model.proofs.May.{may_answer}
use Rattle.exchange_driver.proofs.Driven.{gives_up, goes_on}
use Rattle.exchange_driver.proofs.driver.Driver.answer.Goals as goal

pub invariant_of-self : goal.invariant_of-self
invariant_of-self c =
    let s = c.self.invariant in
    let few = c.len.ensures in
    let not_more = c.if-len-self.false in
    let limit = s.limits in
    let may = may_answer s.config s.history c.args.bytes (s.ready c.if-self.false) (omega (arith, few, not_more, limit)) in
    goes_on c.self.inside.exchange c.step.new.self c.self.inside.answer_limit c.self.inside.spent s _ (c.in-Ok.ensures.stands s.config s.history s.stands may) tt

pub invariant_of-self-in-Err : goal.invariant_of-self-in-Err
invariant_of-self-in-Err c =
    let s = c.self.invariant in
    let few = c.len.ensures in
    let not_more = c.if-len-self.false in
    let limit = s.limits in
    let may = may_answer s.config s.history c.args.bytes (s.ready c.if-self.false) (omega (arith, few, not_more, limit)) in
    gives_up c.self.inside.exchange c.step.new.self c.self.inside.answer_limit c.self.inside.spent s (c.in-Err.ensures.failed s.config s.history s.stands may)
