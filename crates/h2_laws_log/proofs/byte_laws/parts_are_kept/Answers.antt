-- Byte by byte and call by call.
use Rattle.h2_laws_log.proofs.Parts.{part-byte, part-called, part-account}
use Rattle.h2_laws_log.proofs.byte_laws.parts_are_kept.Goals as goal

pub returns : goal.returns
returns c = record { byte = part-byte; call = part-called; history = part-account }
