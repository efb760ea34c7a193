use Rattle.std.proofs.Common.{rules, arith, ap, ◌∙◌, []}
use Rattle.h2_frames.specs.Frames.{first}
use Rattle.h2_frames.proofs.First.{first_short}
use Rattle.h2_frames.proofs.reader.FrameReader.new.Goals as goal

pub invariant_of-result : goal.invariant_of-result
invariant_of-result c = (ap first c.in_ok-kept.ensures.items ∙ first_short [] (omega arith), search rules)
