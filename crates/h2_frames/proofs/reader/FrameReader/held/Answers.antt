use Rattle.std.proofs.Common.{rules}
use Rattle.h2_frames.proofs.First.{unfinished_short}
use Rattle.h2_frames.proofs.reader.FrameReader.held.Goals as goal

pub returns-clause-bound : goal.returns-clause-bound
returns-clause-bound c = let short = unfinished_short c.self.inside.kept.items c.self.invariant.0 in search rules
