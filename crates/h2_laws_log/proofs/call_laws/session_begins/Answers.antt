-- From the account of no call.
use Rattle.h2_laws_log.proofs.Start.{start-seen, start-valid, start-sound, start-opened, start-headless}
use Rattle.h2_laws_log.proofs.call_laws.session_begins.Goals as goal

pub returns : goal.returns
returns c = λ client. record {
  state = start-seen client;
  valid = start-valid client;
  sound = start-sound client;
  numbers =
      start-opened client;
  headless = start-headless client;
}
