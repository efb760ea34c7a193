use Rattle.std.proofs.Common.{sym, ap, subst, arith}
use Rattle.std.specs.Prelude.{length}
use Rattle.trace_model.specs.Links.{told_of}
use Rattle.trace_model.proofs.May.{may_answer}
use Rattle.trace_player.specs.Ties.{IsTied}
use Rattle.trace_player.proofs.Told.{answer_told, too_long}
use Rattle.trace_player.proofs.opened.Opened.answered.Goals as goal

pub step-requires : goal.step-requires
step-requires c =
    let (k, m, t, e) = c.requires in
    let few = c.len.ensures in
    let not_more = c.if-len-limit.false in
    let same = ap length c.in_ok-copy.ensures in
    (k, m.calls, t.after, may_answer k m.calls c.in_ok-copy.copy t.ready (omega (arith, few, not_more, same, e)))

pub returns-then-len-limit-clause-tied : goal.returns-then-len-limit-clause-tied
returns-then-len-limit-clause-tied c = λ k m t e.
    let few = c.len.ensures in
    let more = c.if-len-limit.true in
    let long = too_long k c.args.bytes.now (omega (arith, few, more, e)) in
    subst (λ v. IsTied k (told_of v m) c.told.new.self) (sym long) (c.in_ok-told.ensures.tied k m t)

pub returns-clause-tied : goal.returns-clause-tied
returns-clause-tied c = λ k m t e.
    let few = c.len.ensures in
    let not_more = c.if-len-limit.false in
    let same = ap length c.in_ok-copy.ensures in
    let may = may_answer k m.calls c.in_ok-copy.copy t.ready (omega (arith, few, not_more, same, e)) in
    answer_told k m c.args.self.now c.step.new.self c.args.bytes.now c.in_ok-copy.copy t c.in_ok-copy.ensures (omega (arith, few, not_more, e))
    (c.in_ok-step.ensures.stands k m.calls t.after may)
