use Rattle.std.proofs.Common.{◌∙◌, sym, subst, inr, Some}
use Rattle.half_machine.specs.Judging.{IsCause}
use Rattle.filter_model.specs.Half.{Answer, kind_numbered}
use Rattle.exchange.specs.Answering.{settled_with}
use Rattle.exchange.specs.Flows.{Story, FlowStands, with_call}
use Rattle.exchange.proofs.AnsweringFlow.{answered_so, may_settle, same_refusal, settled_back, still_may, still_waits}
use Rattle.exchange.proofs.Telling.{one_told}
use Rattle.exchange.proofs.flow.Flow.answer.Goals as goal

pub answer-requires : goal.answer-requires
answer-requires c =
    let s : Story = c.requires.0 in
    let b = c.awaits_headers-awaits.result in
    let e = c.awaits_headers-awaits.ensures s.past c.requires.1.half in
    let u = c.settle.ensures.stands s c.requires.1 (may_settle b s e) in
    ((settled_with b c.args.modes s).past, u.half, still_may b c.args.modes s c.args.answer.now.common c.requires.2)

pub settle-requires-in-Err : goal.settle-requires-in-Err
settle-requires-in-Err c =
    let s : Story = c.requires.0 in
    let b = c.awaits_headers-awaits.result in
    let e = c.awaits_headers-awaits.ensures s.past c.requires.1.half in
    let u = c.settle.ensures.stands s c.requires.1 (may_settle b s e) in (
      settled_with b c.args.modes s,
      subst (λ y. FlowStands (settled_with b c.args.modes s) (record c.settle.new.self { half = y })) (sym c.in-Err.ensures.unchanged) u,
      may_settle b (settled_with b c.args.modes s) (still_waits b c.args.modes s c.args.self.now c.requires.1 e),
    )

pub returns-in-Err-clause-refused : goal.returns-in-Err-clause-refused
returns-in-Err-clause-refused c = λ s t r.
    let b = c.awaits_headers-awaits.result in
    let e = c.awaits_headers-awaits.ensures s.past t.half in
    let u = c.settle.ensures.stands s t (may_settle b s e) in
    subst (λ k. IsCause k c.in-Err.fault) (same_refusal b c.args.modes s c.args.self.now (kind_numbered c.args.answer.now.part) c.args.answer.now.common t e)
    (c.in-Err.ensures.refused (settled_with b c.args.modes s).past u.half)

pub returns-in-Err-clause-unchanged : goal.returns-in-Err-clause-unchanged
returns-in-Err-clause-unchanged c = λ s t r.
    let b = c.awaits_headers-awaits.result in
    let e = c.awaits_headers-awaits.ensures s.past t.half in
    let u = c.settle.ensures.stands s t (may_settle b s e) in
    let s1 : Story = settled_with b c.args.modes s in
    let v = subst (λ y. FlowStands s1 (record c.settle.new.self { half = y })) (sym c.in-Err.ensures.unchanged) u in (
      settled_with b (Some c.modes-old.result) s1,
      c.settle-in-Err.ensures.stands s1 v (may_settle b s1 (still_waits b c.args.modes s c.args.self.now t e)),
      settled_back b c.args.modes c.modes-old.result s c.args.self.now c.settle.new.self t u e r (c.modes-old.ensures s.past t.half),
    )

pub returns-clause-taken : goal.returns-clause-taken
returns-clause-taken c = λ s t.
    let b = c.awaits_headers-awaits.result in
    let e = c.awaits_headers-awaits.ensures s.past t.half in
    let u = c.settle.ensures.stands s t (may_settle b s e) in
    sym (same_refusal b c.args.modes s c.args.self.now (kind_numbered c.args.answer.now.part) c.args.answer.now.common t e)
    ∙ c.in_default.ensures.taken (settled_with b c.args.modes s).past u.half

pub returns-clause-stands : goal.returns-clause-stands
returns-clause-stands c = λ s t r y.
    let b = c.awaits_headers-awaits.result in
    let a = c.args.answer.now.common in
    let e = c.awaits_headers-awaits.ensures s.past t.half in
    let u = c.settle.ensures.stands s t (may_settle b s e) in
    let s1 : Story = settled_with b c.args.modes s in (
      with_call (Answer a) s1,
      one_told s1 c.settle.new.self c.answer.new.self (Answer a) u
          (inr (kind_numbered c.args.answer.now.part, c.in_default.ensures.taken s1.past u.half))
          (c.in_default.ensures.stands s1.past u.half (still_may b c.args.modes s a y)),
      answered_so b c.args.modes s a e,
    )
