use Rattle.std.proofs.Common.{ap}
use Rattle.std.specs.Prelude.{Some}
use Rattle.processor_core.specs.Calls.{ServedCall}
use Rattle.processor_core.proofs.Asking.{is_answered, not_answered, not_written}
use Rattle.processor_core.proofs.call.Call.put.Goals as goal

pub returns-in-Ok-write : goal.returns-in-Ok-write
returns-in-Ok-write g c =
    is_answered g.S.Stage.stands c.args.stages.now.seats.items c.ask.new.self.seats.items c.args.ask.now c.self.inside.stream c.args.self.now c.write.new.self c.in-Ok.answer
    (ap (λ (k : ServedCall). k.stream) c.self.view_is) c.in-Ok.ensures c.in-Ok-write.ensures.written

pub returns-in-Ok : goal.returns-in-Ok
returns-in-Ok g c =
    not_written g.S.Stage.stands c.args.stages.now.seats.items c.ask.new.self.seats.items c.fail.new.stages.seats.items c.args.ask.now c.self.inside.stream c.args.self.now c.write.new.self c.fail.new.self (Some c.in-Ok.answer)
    (ap (λ (k : ServedCall). k.stream) c.self.view_is) c.in-Ok.ensures c.in-Err-write.ensures.failed c.fail.ensures.stages c.fail.ensures.call

pub returns : goal.returns
returns g c =
    not_answered g.S.Stage.stands c.args.stages.now.seats.items c.ask.new.self.seats.items c.fail-in-Err.new.stages.seats.items c.args.ask.now c.self.inside.stream c.args.self.now c.fail-in-Err.new.self
    (ap (λ (k : ServedCall). k.stream) c.self.view_is) c.in-Err.ensures c.fail-in-Err.ensures.stages c.fail-in-Err.ensures.call
