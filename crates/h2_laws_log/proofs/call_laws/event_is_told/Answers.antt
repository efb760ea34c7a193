-- Only the first event goes.
use Rattle.std.proofs.Common.{refl}
use Rattle.h2_laws_log.proofs.Unless.{answered-seen, answered-valid, answered-sound}
use Rattle.h2_laws_log.proofs.call_laws.event_is_told.Goals as goal

pub returns : goal.returns
returns c = λ a v s. record {
  state = answered-seen a;
  valid = answered-valid a v;
  sound = answered-sound a s;
  numbers =
      refl;
  headless = λ k. refl;
}
