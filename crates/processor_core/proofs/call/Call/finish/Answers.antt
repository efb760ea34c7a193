use Rattle.std.proofs.Common.{ap, sym}
use Rattle.std.specs.Prelude.{true}
use Rattle.processor_core.specs.Calls.{ServedCall}
use Rattle.processor_core.proofs.Asking.{is_ended, is_finished}
use Rattle.processor_core.proofs.call.Call.finish.Goals as goal

pub returns-in-None : goal.returns-in-None
returns-in-None g c =
    is_ended g.S.Stage.stands c.args.stages.now.seats.items c.args.self.now _ c.args.fault (sym c.in-None.ensures) (ap (λ (k : ServedCall). record k { ended = true }) c.self.view_is)

pub returns-in-Some : goal.returns-in-Some
returns-in-Some g c =
    is_finished g.S.Stage.stands c.args.stages.now.seats.items c.fail.new.stages.seats.items c.args.self.now c.fail.new.self c.args.fault c.in-Some.status (sym c.in-Some.ensures) c.fail.ensures.stages c.fail.ensures.call
