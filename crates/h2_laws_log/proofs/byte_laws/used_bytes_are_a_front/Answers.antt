-- Byte by byte.
use Rattle.h2_laws_log.proofs.Uses.{uses-none, uses-one, uses-both, used-count, used-whole}
use Rattle.h2_laws_log.proofs.byte_laws.used_bytes_are_a_front.Goals as goal

pub returns : goal.returns
returns c = record { stopped = uses-none; byte = uses-one; pieces = uses-both; count = used-count; again = used-whole }
