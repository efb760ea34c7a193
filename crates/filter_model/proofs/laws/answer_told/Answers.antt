use Rattle.filter_model.proofs.AnswerTold.{own_told, other_told, answer_made, judged, is_part, not_refused, headers_answered, no_response_yet, own_timer, other_timer}
use Rattle.filter_model.proofs.laws.answer_told.Goals as goal

pub returns : goal.returns
returns c = record {
  own = own_told;
  other = other_told;
  made = answer_made;
  judged = judged;
  part = is_part;
  accepted = not_refused;
  settles = headers_answered;
  early = no_response_yet;
  timer = own_timer;
  other_timer = other_timer;
}
