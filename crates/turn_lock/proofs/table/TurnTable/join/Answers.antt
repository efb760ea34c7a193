use Rattle.std.proofs.Common.{rules, ap, sym, subst, ◌∙◌}
use Rattle.turn_lock.specs.History.{IsLonger}
use Rattle.turn_lock.specs.Views.{number_in}
use Rattle.turn_lock.proofs.Ready.{number_of_ready, idle_of_ready, nil_of_ready, ready, keeps_stood, stood_longer}
use Rattle.turn_lock.proofs.Loads.{compares_fronts}
use Rattle.turn_lock.proofs.Seats.{joins}
use Rattle.turn_lock.proofs.table.TurnTable.join.Goals as goal

pub join_seat-requires : goal.join_seat-requires
join_seat-requires g c = (search rules, search rules, search rules, search rules, joins _ _ _ _ _ _ (number_of_ready _ c.args.other.ready.0) (idle_of_ready _ c.args.other.ready.1.0))

pub load-requires : goal.load-requires
load-requires g c = let e = c.join_seat.ensures.2 in
    (search rules, search rules, compares_fronts _ _ _ _ _ _ _ (ap (λ m. m.0.number) e ∙ number_of_ready _ c.args.seat.now.ready.0) (ap (λ m. m.0.joined) e))

pub invariant_of-seat : goal.invariant_of-seat
invariant_of-seat g c = let v = c.args.seat.now.seat.me.0 in let w = c.args.other.seat.me.0 in let m = c.join_seat.new.seat.me in let e = c.join_seat.ensures.2 in
    let named = ap (λ m. m.0.number) e ∙ number_of_ready _ c.args.seat.now.ready.0 in
    let s = c.load.ensures.2.1 _ _ _ named (ap (λ m. m.0.joined) e) in record {
      ready = ready c.load.new.seat.me (number_in v.number) (ap (λ w. w.number) s.1 ∙ named) (ap (λ w. w.stage) s.1 ∙ (ap (λ m. m.0.stage) e ∙ idle_of_ready _ c.args.seat.now.ready.1.0))
          (c.load.ensures.2.0 ∙ (ap (λ m. m.1) e ∙ nil_of_ready _ c.args.seat.now.ready.1.1));
      stood = keeps_stood g.T.Turned.stands s.0 _ (ap (λ w. w.front) s.1) (stood_longer g.T.Turned.stands (number_in v.number) (number_in w.number) m.0.front w.front s.0 s.2
          (keeps_stood g.T.Turned.stands _ m.0.front (ap (λ m. m.0.front) e) c.args.seat.now.stood) c.args.other.stood);
    }

pub returns-clause-seat : goal.returns-clause-seat
returns-clause-seat g c = let e = c.join_seat.ensures.2 in
    let s = c.load.ensures.2.1 _ _ _ (ap (λ m. m.0.number) e ∙ number_of_ready _ c.args.seat.now.ready.0) (ap (λ m. m.0.joined) e) in (
      search rules,
      record { number = ap (λ w. number_in w.number) s.1 ∙ ap (λ m. number_in m.0.number) e; splits = ap (λ w. w.splits) s.1 ∙ ap (λ m. m.0.splits) e },
      ap (λ w. w.busy) s.1 ∙ ap (λ m. m.0.busy) e,
    )

pub returns-clause-front : goal.returns-clause-front
returns-clause-front g c = let v = c.args.seat.now.seat.me.0 in let w = c.args.other.seat.me.0 in let m = c.join_seat.new.seat.me in let e = c.join_seat.ensures.2 in
    let s = c.load.ensures.2.1 _ _ _ (ap (λ m. m.0.number) e ∙ number_of_ready _ c.args.seat.now.ready.0) (ap (λ m. m.0.joined) e) in
    subst (λ f. IsLonger (number_in v.number) (number_in w.number) f w.front c.load.new.seat.me.0.front) (ap (λ m. m.0.front) e)
    (subst (λ f. IsLonger (number_in v.number) (number_in w.number) m.0.front w.front f) (sym (ap (λ w. w.front) s.1)) s.2)

pub returns-clause-noted : goal.returns-clause-noted
returns-clause-noted g c = let e = c.join_seat.ensures.2 in
    let s = c.load.ensures.2.1 _ _ _ (ap (λ m. m.0.number) e ∙ number_of_ready _ c.args.seat.now.ready.0) (ap (λ m. m.0.joined) e) in
    ap (λ w. w.noted) s.1 ∙ ap (λ m. m.0.noted) e
