use Rattle.std.proofs.Common.{rules, ap}
use Rattle.turn_lock.proofs.Ready.{keeps_ready, keeps_stood}
use Rattle.turn_lock.proofs.Loads.{notes_length}
use Rattle.turn_lock.proofs.table.TurnTable.note.Goals as goal

pub load-requires : goal.load-requires
load-requires g c = (search rules, search rules, notes_length _ _ _ _)

pub invariant_of-seat : goal.invariant_of-seat
invariant_of-seat g c = let e = c.load.ensures.2 in record {
  ready = keeps_ready c.args.seat.now.seat.me c.load.new.seat.me (ap (λ w. w.number) e.1) (ap (λ w. w.stage) e.1) e.0 c.args.seat.now.ready;
  stood = keeps_stood g.T.Turned.stands _ _ (ap (λ w. w.front) e.1) c.args.seat.now.stood;
}
