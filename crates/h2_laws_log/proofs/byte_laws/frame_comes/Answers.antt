-- All bytes but the last wait.
use Rattle.h2_laws_log.proofs.Frames.{frame-comes, frame-used}
use Rattle.h2_laws_log.proofs.byte_laws.frame_comes.Goals as goal

pub returns : goal.returns
returns c = record { after = frame-comes; uses = frame-used }
