use Rattle.filter_model.proofs.Known.{committed_known, asked_known, called_known, changed_known, queue_known, room_known, over_known, refusal_known}
use Rattle.filter_model.proofs.laws.known_is_enough.Goals as goal

pub returns : goal.returns
returns c = record {
  committed = committed_known;
  asked = asked_known;
  called = called_known;
  changed = changed_known;
  queue = queue_known;
  room = room_known;
  over = over_known;
  refusal = refusal_known;
}
