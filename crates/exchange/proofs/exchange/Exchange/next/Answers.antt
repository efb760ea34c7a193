use Rattle.exchange.proofs.AskingEnds.{asked_none, due_now}
use Rattle.exchange.proofs.exchange.Exchange.next.Goals as goal

pub returns-clause-due : goal.returns-clause-due
returns-clause-due g c h s =
    let k = g.in_ok-bytes.ensures in
    g.next_end-end.ensures.due c h (asked_none c h g.in_ok-bytes.field-0 g.next_ask.new.self g.in_default.not-Some (k.stands c h s)) (due_now c h g.in_ok-bytes.field-0 g.in_default.not-Some (k.due c h s))

pub returns-clause-stands : goal.returns-clause-stands
returns-clause-stands g c h s =
    let k = g.in_ok-bytes.ensures in
    g.next_end-end.ensures.stands c h (asked_none c h g.in_ok-bytes.field-0 g.next_ask.new.self g.in_default.not-Some (k.stands c h s)) (due_now c h g.in_ok-bytes.field-0 g.in_default.not-Some (k.due c h s))
