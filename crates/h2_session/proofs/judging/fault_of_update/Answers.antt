use Rattle.std.proofs.Common.{sym, ◌∙◌}
use Rattle.h2_model.specs.StreamFaults.{update_rows}
use Rattle.h2_session.proofs.Judged.{its-stream, no-stream, judged, not-live}
use Rattle.h2_session.proofs.judging.fault_of_update.Goals as goal

pub returns-in-Some : goal.returns-in-Some
returns-in-Some c = λ b e i.
    c.with_stream.ensures ∙ judged (λ id. update_rows b id c.args.n) c.in-Some.stream c.args.id b c.update_fault.result
    (its-stream c.args.streams.now.streams b c.args.id c.in-Some.stream e (sym c.in-Some.is ∙ c.get.ensures.stream)) (λ x. c.update_fault.ensures b x i)

pub returns-in-None : goal.returns-in-None
returns-in-None c = λ b e i. sym (not-live b c.args.id (update_rows b c.args.id c.args.n) (no-stream c.args.streams.now.streams b c.args.id e (sym c.in-None.is ∙ c.get.ensures.stream)))
