-- What is no entry changes nothing else.
use Rattle.h2_laws_log.proofs.Arrives.{sound-aside}
use Rattle.h2_laws_log.proofs.Reports.{seen-aside}
use Rattle.h2_laws_log.proofs.frame_laws.what_is_no_entry_is_kept_apart.Goals as goal

pub returns : goal.returns
returns c = record { state = seen-aside; sound = sound-aside }
