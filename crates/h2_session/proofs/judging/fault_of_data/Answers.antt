use Rattle.std.proofs.Common.{sym, ◌∙◌}
use Rattle.h2_model.specs.StreamFaults.{data_rows}
use Rattle.h2_session.proofs.Judged.{its-stream, no-stream, judged, not-live}
use Rattle.h2_session.proofs.judging.fault_of_data.Goals as goal

pub returns-in-Some : goal.returns-in-Some
returns-in-Some c = λ b e.
    c.with_stream.ensures ∙ judged (data_rows b) c.in-Some.stream c.args.id b c.data_fault.result
    (its-stream c.args.streams.now.streams b c.args.id c.in-Some.stream e (sym c.in-Some.is ∙ c.get.ensures.stream)) (λ x. c.data_fault.ensures b x)

pub returns-in-None : goal.returns-in-None
returns-in-None c = λ b e. sym (not-live b c.args.id (data_rows b c.args.id) (no-stream c.args.streams.now.streams b c.args.id e (sym c.in-None.is ∙ c.get.ensures.stream)))
