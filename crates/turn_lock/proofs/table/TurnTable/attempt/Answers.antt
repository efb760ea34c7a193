use Rattle.std.proofs.Common.{rules, ◌≡◌, ◌+◌, ℕ, [], ◌∷◌, ◌++◌, length, Some, ap, sym, ◌∙◌, subst, arith, length-append}
use Rattle.atomic_table.specs.Table.{rest}
use Rattle.turn_lock.specs.declared.view.Stage.TheVariants.{Idle}
use Rattle.turn_lock.specs.declared.entry.Entry.{Entry}
use Rattle.turn_lock.specs.History.{entry}
use Rattle.turn_lock.specs.Views.{number_in, view, without_turn, with_entry}
use Rattle.turn_lock.proofs.Ready.{number_of_ready, idle_of_ready, ready, keeps_ready, keeps_stood}
use Rattle.turn_lock.proofs.Turns.{takes_turn, frees_turn, frees_spent_turn}
use Rattle.turn_lock.proofs.Attempts.{has_out}
use Rattle.turn_lock.proofs.table.TurnTable.attempt.Goals as goal

pub compare_exchange-found-requires : goal.compare_exchange-found-requires
compare_exchange-found-requires g c = (search rules, search rules, takes_turn _ _ _ _ (idle_of_ready _ c.args.seat.now.ready.1.0))

pub exchange-slot-requires : goal.exchange-slot-requires
exchange-slot-requires g c = let got = c.compare_exchange-found.ensures.2.0 c.if-found-ne0.false in
    (search rules, (Some got.counted, got.slot ∙ ap (λ l. (0, Some got.counted) ∷ l) (sym (ap rest got.slot))))

pub act-reply-requires-clause-turn : goal.act-reply-requires-clause-turn
act-reply-requires-clause-turn g c = let out = has_out _ _ _ _ _ _ c.args.seat.now.ready (c.compare_exchange-found.ensures.2.0 c.if-found-ne0.false) c.exchange-slot.ensures.2 c.exchange-slot.ensures.3 c.unwrap-counted.ensures in
    let calls = out.calls in (out.history, number_in c.args.seat.now.seat.me.0.number, out.stage, out.number, out.value, calls, omega arith)

-- ---- No call more can be counted

pub store-requires : goal.store-requires
store-requires g c = let out = has_out _ _ _ _ _ _ c.args.seat.now.ready (c.compare_exchange-found.ensures.2.0 c.if-found-ne0.false) c.exchange-slot.ensures.2 c.exchange-slot.ensures.3 c.unwrap-counted.ensures in
    let back = c.exchange.ensures.3 in
    let slot = ap (λ m. m.1) back ∙ ap (λ l. (0, Some c.unwrap-counted.result) ∷ rest l) out.slot in
    (search rules, search rules, frees_spent_turn _ _ _ _ c.unwrap-counted.result out.history c.args.self.now.sized.1 (ap (λ m. m.0.stage) back ∙ out.stage) slot out.value out.calls)

pub invariant_of-seat-then-counted : goal.invariant_of-seat-then-counted
invariant_of-seat-then-counted g c = let out = has_out _ _ _ _ _ _ c.args.seat.now.ready (c.compare_exchange-found.ensures.2.0 c.if-found-ne0.false) c.exchange-slot.ensures.2 c.exchange-slot.ensures.3 c.unwrap-counted.ensures in
    let freed = c.store.ensures.2 in let v = c.args.seat.now.seat.me.0 in
    let same = ap (λ m. m.0) c.exchange.ensures.3 ∙ out.view in
    let last : c.store.new.seat.me.0 ≡ without_turn (length out.history) v = freed.0 out.history (ap (λ w. w.stage) same) ∙ ap (λ w. without_turn (length out.history) w) same in record {
      ready = ready c.store.new.seat.me (number_in v.number) (ap (λ w. w.number) last ∙ number_of_ready _ c.args.seat.now.ready.0) (ap (λ w. w.stage) last) freed.1;
      stood = keeps_stood g.T.Turned.stands _ _ (ap (λ w. w.front) last) c.args.seat.now.stood;
    }

-- ---- The turn was taken

pub invariant_of-seat : goal.invariant_of-seat
invariant_of-seat g c = let was = c.compare_exchange-found.ensures.2.1 c.if-found-ne0.true in record {
  ready = keeps_ready c.args.seat.now.seat.me c.compare_exchange-found.new.seat.me (ap (λ w. w.number) was.view) (ap (λ w. w.stage) was.view) was.slot c.args.seat.now.ready;
  stood = keeps_stood g.T.Turned.stands _ _ (ap (λ w. w.front) was.view) c.args.seat.now.stood;
}

-- ---- The call is done. The history then, and the last view, which the store leaves.

pub store-requires-2 : goal.store-requires-2
store-requires-2 g c = let out = has_out _ _ _ _ _ _ c.args.seat.now.ready (c.compare_exchange-found.ensures.2.0 c.if-found-ne0.false) c.exchange-slot.ensures.2 c.exchange-slot.ensures.3 c.unwrap-counted.ensures in
    let a = c.act-reply.ensures in let back = c.exchange-2.ensures.3 in let n : ℕ = number_in c.args.seat.now.seat.me.0.number in
    let e : Entry g.row.T-Call.Denot g.row.T-Reply.Denot = entry n c.args.call c.act-reply.result in
    let slot = ap (λ m. m.1) back ∙ ap (λ l. (0, Some c.act-reply.new.counted) ∷ rest l) (a.table.2 ∙ out.slot) in (
      search rules,
      search rules,
      frees_turn _ _ _ _ c.act-reply.new.counted (out.history ++ e ∷ []) c.args.self.now.sized.1 (ap (λ m. m.0.stage) back ∙ ap (λ v. v.stage) (a.view out.history n out.stage out.number)) slot
          (a.value out.history n out.stage out.number) (omega (arith, a.calls, out.calls, length-append out.history (e ∷ []))),
    )

pub returns-clause-seat : goal.returns-clause-seat
returns-clause-seat g c = let out = has_out _ _ _ _ _ _ c.args.seat.now.ready (c.compare_exchange-found.ensures.2.0 c.if-found-ne0.false) c.exchange-slot.ensures.2 c.exchange-slot.ensures.3 c.unwrap-counted.ensures in
    let a = c.act-reply.ensures in let v = c.args.seat.now.seat.me.0 in let n : ℕ = number_in v.number in
    let history = out.history ++ entry n c.args.call c.act-reply.result ∷ [] in
    let last : c.store-2.new.seat.me.0 ≡ view v.number history v.joined v.noted v.busy v.splits Idle
    = c.store-2.ensures.2.0 ∙ ap (λ w. without_turn w.noted w) (ap (λ m. m.0) c.exchange-2.ensures.3 ∙ (a.view out.history n out.stage out.number ∙ ap (with_entry history) out.view)) in
    (search rules, record { number = ap (λ w. number_in w.number) last; splits = ap (λ w. w.splits) last })

pub invariant_of-seat-2 : goal.invariant_of-seat-2
invariant_of-seat-2 g c = let out = has_out _ _ _ _ _ _ c.args.seat.now.ready (c.compare_exchange-found.ensures.2.0 c.if-found-ne0.false) c.exchange-slot.ensures.2 c.exchange-slot.ensures.3 c.unwrap-counted.ensures in
    let a = c.act-reply.ensures in let v = c.args.seat.now.seat.me.0 in let n : ℕ = number_in v.number in
    let history = out.history ++ entry n c.args.call c.act-reply.result ∷ [] in
    let last : c.store-2.new.seat.me.0 ≡ view v.number history v.joined v.noted v.busy v.splits Idle
    = c.store-2.ensures.2.0 ∙ ap (λ w. without_turn w.noted w) (ap (λ m. m.0) c.exchange-2.ensures.3 ∙ (a.view out.history n out.stage out.number ∙ ap (with_entry history) out.view)) in record {
      ready = ready c.store-2.new.seat.me n (ap (λ w. w.number) last ∙ number_of_ready _ c.args.seat.now.ready.0) (ap (λ w. w.stage) last) c.store-2.ensures.2.1;
      stood = ∣ (c.act-reply.new.counted.value, subst (g.T.Turned.stands c.act-reply.new.counted.value) (sym (ap (λ w. w.front) last)) (a.value out.history n out.stage out.number)) ∣₁;
    }

pub returns-clause-answer : goal.returns-clause-answer
returns-clause-answer g c = let out = has_out _ _ _ _ _ _ c.args.seat.now.ready (c.compare_exchange-found.ensures.2.0 c.if-found-ne0.false) c.exchange-slot.ensures.2 c.exchange-slot.ensures.3 c.unwrap-counted.ensures in
    let a = c.act-reply.ensures in let v = c.args.seat.now.seat.me.0 in let n : ℕ = number_in v.number in
    let e : Entry g.row.T-Call.Denot g.row.T-Reply.Denot = entry n c.args.call c.act-reply.result in
    let history = out.history ++ e ∷ [] in
    let last : c.store-2.new.seat.me.0 ≡ view v.number history v.joined v.noted v.busy v.splits Idle
    = c.store-2.ensures.2.0 ∙ ap (λ w. without_turn w.noted w) (ap (λ m. m.0) c.exchange-2.ensures.3 ∙ (a.view out.history n out.stage out.number ∙ ap (with_entry history) out.view)) in
    let front = ap (λ w. w.front) last in
    let long : length c.store-2.new.seat.me.0.front ≡ length out.history + 1 = ap length front ∙ length-append out.history (e ∷ []) in
    let noted = out.noted in let calls = out.calls in record {
      others = out.goes_on.0;
      front = front ∙ ap (λ l. l ++ e ∷ []) (sym out.goes_on.1);
      apart = out.goes_on.2;
      value = c.act-reply.new.counted.value;
      stands_for = subst (g.T.Turned.stands c.act-reply.new.counted.value) (sym front) (a.value out.history n out.stage out.number);
      noted = ap (λ w. w.noted) last;
      after_note = omega arith;
      room = omega arith;
      busy = ap (λ w. w.busy) last;
    }
