use Rattle.h1_read.proofs.TurnLaw.{request_got, request_left}
use Rattle.h1_read.proofs.step.request_step.Goals as goal

pub returns-in_ok-message-in-Whole : goal.returns-in_ok-message-in-Whole
returns-in_ok-message-in-Whole c =
    let whole = rw c.in-Whole.is at c.in_ok-parts.ensures in
    λ to_head. request_got to_head c.args.bytes.now c.in-Whole.parts c.in-Whole.used c.in_ok-message-in-Whole.message whole c.in_ok-message-in-Whole.ensures

pub returns-in-Partial : goal.returns-in-Partial
returns-in-Partial c =
    let partial = rw c.in-Partial.is at c.in_ok-parts.ensures in
    λ to_head. request_left to_head c.args.bytes.now partial
