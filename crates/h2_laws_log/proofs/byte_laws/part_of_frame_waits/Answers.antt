-- Byte by byte.
use Rattle.h2_laws_log.proofs.Frames.{part-waits, part-used}
use Rattle.h2_laws_log.proofs.byte_laws.part_of_frame_waits.Goals as goal

pub returns : goal.returns
returns c = record { after = part-waits; uses = part-used }
