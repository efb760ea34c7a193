use Rattle.std.proofs.Common.{rules, sym, subst, ◌∙◌, ap, ◌≤◌, length}
use Rattle.std.specs.Prelude.{min}
use Rattle.filter_model.specs.Right.{MayCome, account, taken_of}
use Rattle.filter_model.specs.Step.{room}
use Rattle.exchange.proofs.Stepping.{answer_may, sent_may}
use Rattle.exchange.proofs.exchange.Exchange.step.Goals as goal

pub returns-in-Bytes-clause-taken : goal.returns-in-Bytes-clause-taken
returns-in-Bytes-clause-taken c f h s m =
    c.in_ok-n-in-Bytes.ensures.taken f h s
    ∙ ap (λ b. min (length b) (room f (account f h) c.in-Bytes.side)) c.bytes-in-Bytes.ensures.list
    ∙ sym (ap (taken_of f (account f h)) c.in-Bytes.is)

pub returns-in_err-answer-in-Answer-clause-failed : goal.returns-in_err-answer-in-Answer-clause-failed
returns-in_err-answer-in-Answer-clause-failed c f h s m =
    let l = answer_may f h _ (subst (MayCome f h) c.in-Answer.is m) in
    let k = c.in_err-answer-in-Answer.ensures.failed f h s (subst (λ b. length b ≤ f.course.answer_limit) (sym c.bytes-in-Answer-2.ensures.list) l) in
    search rules

pub returns-in_ok-answer-in-Answer-clause-stands : goal.returns-in_ok-answer-in-Answer-clause-stands
returns-in_ok-answer-in-Answer-clause-stands c f h s m =
    let l = answer_may f h _ (subst (MayCome f h) c.in-Answer.is m) in
    search rules

pub returns-in-Sent-clause-stands : goal.returns-in-Sent-clause-stands
returns-in-Sent-clause-stands c f h s m =
    let l = sent_may f h (subst (MayCome f h) c.in-Sent.is m) in
    search rules
