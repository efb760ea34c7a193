-- A head is handed over on an opened stream alone.
use Rattle.h2_laws_log.proofs.Unless.{may-head-opened, head-call-seen, head-call-valid, head-call-sound, head-call-opened, head-call-headless}
use Rattle.h2_laws_log.proofs.call_laws.block_goes_out.Goals as goal

pub returns : goal.returns
returns c = λ id fields block last a v s m. record {
  state = head-call-seen id fields block last a v s;
  valid = head-call-valid id fields block last a v s (may-head-opened id a m);
  sound = head-call-sound id fields block last a v s;
  numbers = head-call-opened id fields block last a v s;
  headless = λ k. head-call-headless id fields block last a k v s;
}
