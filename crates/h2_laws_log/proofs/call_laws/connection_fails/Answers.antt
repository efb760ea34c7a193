-- What is dropped still counts.
use Rattle.h2_laws_log.proofs.Fail.{fail-seen, fail-valid, fail-sound, fail-opened, fail-headless}
use Rattle.h2_laws_log.proofs.call_laws.connection_fails.Goals as goal

pub returns : goal.returns
returns c = λ code a v s e. record {
  state = fail-seen code a v s e;
  valid = fail-valid code a v s e;
  sound = fail-sound code a s;
  numbers = fail-opened code a;
  headless = fail-headless code a;
}
