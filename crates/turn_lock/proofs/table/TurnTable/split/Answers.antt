use Rattle.std.proofs.Common.{rules, ap, ◌∙◌}
use Rattle.turn_lock.proofs.Ready.{number_of_ready, ready, keeps_stood, keeps_ready}
use Rattle.turn_lock.proofs.Loads.{learns_number}
use Rattle.turn_lock.proofs.Seats.{splits}
use Rattle.turn_lock.proofs.table.TurnTable.split.Goals as goal

pub split_seat-new-requires : goal.split_seat-new-requires
split_seat-new-requires g c = (search rules, search rules, splits _ _ _ _ (number_of_ready _ c.args.seat.now.ready.0))

pub load-requires : goal.load-requires
load-requires g c = (search rules, search rules, learns_number _ _ _ _ _ (ap (λ m. m.0.number) c.split_seat-new.ensures.4))

pub invariant_of-seat : goal.invariant_of-seat
invariant_of-seat g c = let e = c.split_seat-new.ensures.2 in record {
  ready = keeps_ready c.args.seat.now.seat.me c.split_seat-new.new.seat.me (ap (λ m. m.0.number) e) (ap (λ m. m.0.stage) e) (ap (λ m. m.1) e) c.args.seat.now.ready;
  stood = keeps_stood g.T.Turned.stands _ _ (ap (λ m. m.0.front) e) c.args.seat.now.stood;
}

pub invariant_of-result : goal.invariant_of-result
invariant_of-result g c = let e = c.split_seat-new.ensures.4 in let s = c.load.ensures.2.1 _ (ap (λ m. m.0.number) e) in record {
  ready = ready c.load.new.seat.me s.0 (ap (λ w. w.number) s.1) (ap (λ w. w.stage) s.1 ∙ ap (λ m. m.0.stage) e) (c.load.ensures.2.0 ∙ ap (λ m. m.1) e);
  stood = keeps_stood g.T.Turned.stands _ _ (ap (λ w. w.front) s.1 ∙ ap (λ m. m.0.front) e) c.args.seat.now.stood;
}
