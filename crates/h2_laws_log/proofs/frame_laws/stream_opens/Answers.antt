-- A stream is opened.
use Rattle.h2_laws_log.proofs.Arrives.{opens-sound}
use Rattle.h2_laws_log.proofs.Opens.{opens}
use Rattle.h2_laws_log.proofs.frame_laws.stream_opens.Goals as goal

pub returns : goal.returns
returns c = record { state = λ n a s l. opens n a s.valid l; sound = opens-sound }
