use Rattle.turn_lock.proofs.Own.{made_none, made_one, made_more}
use Rattle.turn_lock.proofs.laws.own_calls_stand_in_order.Goals as goal

pub returns-clause-none : goal.returns-clause-none
returns-clause-none g c = made_none

pub returns-clause-one : goal.returns-clause-one
returns-clause-one g c = made_one

pub returns-clause-more : goal.returns-clause-more
returns-clause-more g c = made_more
