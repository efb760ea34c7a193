use Rattle.std.proofs.Common.{subst}
use Rattle.h1_message.specs.Feeding.{IsBodyFed}
use Rattle.h1_message.proofs.StageLaw.{body_steps}
use Rattle.h1_message.proofs.step.go_on.Goals as goal

pub returns-clause-gives : goal.returns-clause-gives
returns-clause-gives c s w =
    let fed = subst (λ r. IsBodyFed r c.args.bytes.now c.in_ok-fed.fed) c.in_ok-copy.ensures c.in_ok-fed.ensures in
    rw (c.behind_body-stage.ensures)
    (body_steps s c.args.bytes.now c.in_ok-fed.fed.content c.args.framed c.args.reader.now c.in_ok-fed.fed.next w fed.next)
