use Rattle.std.proofs.Common.{sym, subst}
use Rattle.http_model.specs.declared.types.Direction.{Direction}
use Rattle.h1_read.specs.Steps.{IsStep}
use Rattle.h1_read.proofs.step.read_step.Goals as goal

pub returns-in-Request : goal.returns-in-Request
returns-in-Request c =
    subst (λ (d : Direction). IsStep d c.args.to_head c.args.bytes.now c.request_step.result) (sym c.in-Request.is) (c.request_step.ensures c.args.to_head)
