-- By the account that the used bytes leave.
use Rattle.h2_laws_log.proofs.Steps.{answers, refuses, fault-refuses, leaves}
use Rattle.h2_laws_log.proofs.byte_laws.reading_is_answered.Goals as goal

pub returns : goal.returns
returns c = record { fed = answers; refused = refuses; fault = fault-refuses; left = leaves }
