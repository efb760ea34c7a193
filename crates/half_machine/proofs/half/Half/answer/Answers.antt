use Rattle.std.proofs.Common.{rules, sym, ◌∙◌}
use Rattle.filter_model.specs.Half.{Answer, called, progress, course}
use Rattle.half_machine.proofs.AnswerHolds.{answer_can, answer_holds, late_holds}
use Rattle.half_machine.proofs.Chosen.{tied}
use Rattle.half_machine.proofs.Judged.{not_taken, taken}
use Rattle.half_machine.proofs.Told.{told}
use Rattle.half_machine.proofs.half.Half.answer.Goals as goal

pub returns-in_default-clause-refused : goal.returns-in_default-clause-refused
returns-in_default-clause-refused c p s = not_taken p c.args.self.now c.args.answer.now.part c.args.answer.now.common s (sym c.in_default.ensures)

pub returns-in_err-judge-clause-refused : goal.returns-in_err-judge-clause-refused
returns-in_err-judge-clause-refused c p s =
    let e = (taken p c.args.self.now c.in-Some.mark c.args.answer.now.part c.args.answer.now.common s (sym c.in-Some.ensures)).refusal in
    rw e (search rules)

pub returns-then-self-clause-taken : goal.returns-then-self-clause-taken
returns-then-self-clause-taken c p s =
    (taken p c.args.self.now c.in-Some.mark c.args.answer.now.part c.args.answer.now.common s (sym c.in-Some.ensures)).refusal ∙ c.in_ok-judge.ensures.ok

pub returns-then-self-clause-stands : goal.returns-then-self-clause-stands
returns-then-self-clause-stands c p s y =
    let a = c.args.answer.now.common in
    told p (Answer a) c.go_on.new.self (c.go_on.ensures p.config p.direction (record (progress p) { course = called (Answer a) (course p) })
    (late_holds p c.args.self.now a s c.if-self.true))

pub join-requires-clause-can : goal.join-requires-clause-can
join-requires-clause-can c =
    answer_can c.requires.0 c.args.self.now c.in-Some.mark c.args.answer.now.part c.args.answer.now.common c.requires.1 c.requires.2 (sym c.in-Some.ensures)
    (sym c.requires.1.ties.rule.released ∙ c.if-self.false)

pub returns-in_err-join-clause-refused : goal.returns-in_err-join-clause-refused
returns-in_err-join-clause-refused c p s =
    let e = (taken p c.args.self.now c.in-Some.mark c.args.answer.now.part c.args.answer.now.common s (sym c.in-Some.ensures)).refusal in
    rw e (search rules)

pub go_on-requires-2 : goal.go_on-requires-2
go_on-requires-2 c =
    let p = c.requires.0 in
    let a = c.args.answer.now.common in
    tied p.config p.direction (record (progress p) { course = called (Answer a) (course p) }) c.join.new.self
    (answer_holds p c.args.self.now c.join.new.self c.in-Some.mark c.args.answer.now.part a c.requires.1 c.requires.2 (sym c.in-Some.ensures) c.if-self.false c.in_ok-join.ensures.joined)

pub returns-clause-taken : goal.returns-clause-taken
returns-clause-taken c p s =
    (taken p c.args.self.now c.in-Some.mark c.args.answer.now.part c.args.answer.now.common s (sym c.in-Some.ensures)).refusal ∙ c.in_ok-join.ensures.ok

pub returns-clause-stands : goal.returns-clause-stands
returns-clause-stands c p s y =
    let a = c.args.answer.now.common in
    told p (Answer a) c.go_on-2.new.self (c.go_on-2.ensures p.config p.direction (record (progress p) { course = called (Answer a) (course p) })
    (answer_holds p c.args.self.now c.join.new.self c.in-Some.mark c.args.answer.now.part a s y (sym c.in-Some.ensures) c.if-self.false c.in_ok-join.ensures.joined))
