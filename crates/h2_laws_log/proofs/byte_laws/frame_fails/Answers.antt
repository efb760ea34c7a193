-- The bytes before the fault wait.
use Rattle.h2_laws_log.proofs.Frames.{frame-fails}
use Rattle.h2_laws_log.proofs.byte_laws.frame_fails.Goals as goal

pub returns : goal.returns
returns c = frame-fails
