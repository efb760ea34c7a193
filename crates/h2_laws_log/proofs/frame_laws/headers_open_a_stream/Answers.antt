-- HEADERS open a stream.
use Rattle.h2_laws_log.proofs.Arrives.{begins}
use Rattle.h2_laws_log.proofs.frame_laws.headers_open_a_stream.Goals as goal

pub returns : goal.returns
returns c = record { state = λ f a s v. (begins f a s v).0; valid = λ f a s v. (begins f a s v).1 }
