-- The row is what is kept of the stream.
use Rattle.std.proofs.Common.{refl, sym, ◌∙◌}
use Rattle.h2_streams.proofs.Accounted.{data-row}
use Rattle.h2_streams.proofs.stream_faults.data_fault.Goals as goal

pub returns-then-stream : goal.returns-then-stream
returns-then-stream c = λ a e. sym (data-row c.args.stream.now _ a e ∙ rw c.if-stream.true refl)

pub returns : goal.returns
returns c = λ a e. sym (data-row c.args.stream.now _ a e ∙ rw c.if-stream.false refl)
