-- Answer by answer.
use Rattle.h2_laws_kept.proofs.Opens.{can-open-is, next-is}
use Rattle.h2_laws_kept.proofs.Answers.{stream-window-is, sendable-is, control-is, unsent-is, waits-is, flow-is}
use Rattle.h2_laws_kept.proofs.laws.answers_are_kept.Goals as goal

pub returns : goal.returns
returns c = record {
  «open» = can-open-is;
  next = next-is;
  window = stream-window-is;
  sendable = sendable-is;
  control = control-is;
  unsent = unsent-is;
  waits = waits-is;
  flow = flow-is;
}
