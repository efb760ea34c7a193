-- Call by call.
use Rattle.h2_laws_kept.proofs.Opens.{open-held}
use Rattle.h2_laws_kept.proofs.Heads.{head-held}
use Rattle.h2_laws_kept.proofs.Sends.{send-held}
use Rattle.h2_laws_kept.proofs.Finishes.{finish-held}
use Rattle.h2_laws_kept.proofs.Resets.{reset-held}
use Rattle.h2_laws_kept.proofs.Takes.{take-held}
use Rattle.h2_laws_kept.proofs.laws.calls_are_held.Goals as goal

pub returns : goal.returns
returns c = record {
  «open» = open-held;
  head = head-held;
  send = send-held;
  finish = finish-held;
  reset = reset-held;
  take = take-held;
}
