-- What answers read of the live streams.
use Rattle.h2_laws_log.proofs.Answered.{looked-up, counted, reset-above}
use Rattle.h2_laws_log.proofs.frame_laws.live_streams_are_kept.Goals as goal

pub returns : goal.returns
returns c = record { found = looked-up; count = counted; goaway = reset-above }
