-- Number 0 is never opened.
use Rattle.h2_laws_log.proofs.Same.{zero-unopened}
use Rattle.h2_laws_log.proofs.Arrivals.{byte-sound, open-sound}
use Rattle.h2_laws_log.proofs.call_laws.arrivals_stay_sound.Goals as goal

pub returns : goal.returns
returns c = record { byte = λ b a v s. byte-sound b a (zero-unopened a v) s; opened = open-sound }
