use Rattle.std.proofs.Common.{ℕ, List, subst}
use Rattle.h1_read.specs.Steps.{IsInterim, IsFinal}
use Rattle.h1_read.proofs.TurnLaw.{run_goes_on, run_ends}
use Rattle.h1_read.proofs.step.response_step.Goals as goal

pub returns-in-Ok-Final : goal.returns-in-Ok-Final
returns-in-Ok-Final c =
    let final = rw c.in-Ok-Final.field-0-is at c.in-Ok-Final.ensures in
    run_ends c.args.to_head c.args.bytes.now c.loop-i.i c.loop-i.at c.in-Ok-Final.used c.in-Ok-Final.message c.loop-i.invariant
    (subst (λ (s : List ℕ). IsFinal c.args.to_head s c.in-Ok-Final.message c.in-Ok-Final.used) c.behind.ensures final)

pub loop-i-preserved : goal.loop-i-preserved
loop-i-preserved c =
    let interim = rw c.in-Ok-Interim.field-0-is at c.in-Ok-Interim.ensures in
    run_goes_on c.args.to_head c.args.bytes.now c.loop-i.i c.loop-i.at c.in-Ok-Interim.used c.loop-i.invariant
    (subst (λ (s : List ℕ). IsInterim c.args.to_head s c.in-Ok-Interim.used) c.behind.ensures interim)
