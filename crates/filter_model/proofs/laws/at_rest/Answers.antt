use Rattle.filter_model.proofs.StillAtRest.{head_rests, asks_rest, given_rests, stays_sound, released_both}
use Rattle.filter_model.proofs.laws.at_rest.Goals as goal

pub returns : goal.returns
returns c = record { head = head_rests; asks = asks_rest; given = given_rests; sound = stays_sound; released = released_both }
