use Rattle.std.proofs.Common.{sym, ◌∙◌, ap, subst}
use Rattle.h1_read.specs.Remaining.{IsBegun}
use Rattle.h1_read.specs.Stages.{rest_of, IsAt}
use Rattle.h1_read.proofs.BodyMoves.{start_begun}
use Rattle.h1_read.proofs.body.BodyReader.new.Goals as goal

pub invariant_of-result : goal.invariant_of-result
invariant_of-result c = (
  subst IsBegun (sym (ap (rest_of c.first_stage.result) c.new.ensures.items ∙ c.first_stage.ensures.rest)) (start_begun c.args.length),
  subst (IsAt c.first_stage.result) (sym c.new.ensures.items) c.first_stage.ensures.at,
)
