use Rattle.std.proofs.Common.{arith, ◌++◌, length-append, sym, ◌∙◌}
use Rattle.h2_frames.proofs.First.{first_short, refused_by, waits_for}
use Rattle.h2_frames.proofs.reader.start_of.Goals as goal

pub returns-then-count-lt-HEAD_LEN : goal.returns-then-count-lt-HEAD_LEN
returns-then-count-lt-HEAD_LEN c = first_short (c.args.kept.now ++ c.args.bytes.now) (rw length-append (omega arith))

pub returns-in-Some : goal.returns-in-Some
returns-in-Some c =
    refused_by (c.args.kept.now ++ c.args.bytes.now) c.header_across-header.result c.in-Some.code c.header_across-header.ensures
    (rw length-append (omega arith)) (sym c.fault.ensures ∙ c.in-Some.is)

pub returns-then-count-frame_len : goal.returns-then-count-frame_len
returns-then-count-frame_len c =
    waits_for (c.args.kept.now ++ c.args.bytes.now) c.header_across-header.result c.header_across-header.ensures
    (rw length-append (omega arith)) (sym c.fault.ensures ∙ c.in_default.is) (rw length-append (omega arith))
