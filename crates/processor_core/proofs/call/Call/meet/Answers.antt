use Rattle.std.proofs.Common.{ap, subst, sym, ◌∙◌}
use Rattle.std.specs.Prelude.{[], Err, Some}
use Rattle.ext_msgs.specs.Messages.{IsRead, ask_of}
use Rattle.processor_core.proofs.Asking.{is_met, is_refused}
use Rattle.processor_core.proofs.call.Call.meet.Goals as goal

pub returns-in-Ok : goal.returns-in-Ok
returns-in-Ok g c =
    is_met g.S.Stage.stands c.args.stages.now.seats.items c.put.new.stages.seats.items c.in-Ok.ask c.args.self.now c.put.new.self c.args.message.now
    (ap ask_of (sym c.bytes.ensures.list) ∙ c.in-Ok.ensures) c.put.ensures

pub returns-in-Err : goal.returns-in-Err
returns-in-Err g c =
    is_refused g.S.Stage.stands c.args.stages.now.seats.items c.fail.new.stages.seats.items c.args.self.now c.fail.new.self c.args.message.now c.in-Err.fault
    (subst (λ l. IsRead (Err c.in-Err.fault) (ask_of l)) c.bytes.ensures.list c.in-Err.ensures) c.fail.ensures.stages
    (c.fail.ensures.call ∙ ap (λ n. record c.args.self.now { status = Some n; rest = [] }) c.refused_with.ensures)
