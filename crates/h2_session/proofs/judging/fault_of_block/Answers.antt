use Rattle.std.proofs.Common.{sym, ◌∙◌, ap}
use Rattle.h2_model.specs.StreamFaults.{with_stream, block_rows}
use Rattle.h2_session.proofs.Judged.{its-stream, no-stream, on-live, not-live}
use Rattle.h2_model.specs.State.{found}
use Rattle.h2_session.proofs.judging.fault_of_block.Goals as goal

pub returns-in-Some : goal.returns-in-Some
returns-in-Some c = λ b o e s l.
    let x = its-stream c.args.streams.now.streams b o.stream c.in-Some.stream e (sym c.in-Some.is ∙ c.get.ensures.stream ∙ ap (λ n. found n c.args.streams.now.streams) s) in
    c.with_stream.ensures ∙ ap (λ n. with_stream n c.block_fault.result) s ∙ ap (with_stream o.stream) (c.block_fault.ensures b o x.1 l) ∙ on-live b o.stream (block_rows b o c.args.whole.now.fields) x.0

pub returns-in-None : goal.returns-in-None
returns-in-None c = λ b o e s l.
    sym (not-live b o.stream (block_rows b o c.args.whole.now.fields) (no-stream c.args.streams.now.streams b o.stream e (sym c.in-None.is ∙ c.get.ensures.stream ∙ ap (λ n. found n c.args.streams.now.streams) s)))
