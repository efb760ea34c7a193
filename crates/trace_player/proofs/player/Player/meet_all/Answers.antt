use Rattle.std.proofs.Common.{rules, sym, ◌∙◌, ap, arith, length}
use Rattle.std.proofs.lemmas.List.{places, set-get_or, with_items_is}
use Rattle.std.proofs.lemmas.Option.{slice_get-get_or}
use Rattle.trace_model.specs.Links.{filter_of}
use Rattle.trace_model.specs.Places.{ticked}
use Rattle.trace_player.proofs.PlayedAll.{next_of, one_met, one_passed, played_all}
use Rattle.trace_player.proofs.Reached.{same_length}
use Rattle.trace_player.proofs.player.Player.meet_all.Goals as goal
use Rattle.trace_player.proofs.player.Player.meet_all.Goals.{then-is_about+in_ok-meet, else-is_about}

pub overflow_add-x : goal.overflow_add-x
overflow_add-x c =
    let (s, p) = c.requires in
    let (lines, so, same, text) = c.exchanges.invariant s p in
    let inside = c.exchanges-test.true in
    let value = ap length c.deref_mut-opened-items.ensures.value in
    let states = same_length (filter_of s.config) s.exchanges c.args.self.now.exchanges.items p.exchanges in
    let few = p.few in
    let most = p.valid.max_exchanges.1 in
    omega (arith, same, inside, value, states, few, most)

pub meet-requires : goal.meet-requires
meet-requires c =
    let (s, p) = c.requires in
    let (lines, so, same, text) = c.exchanges.invariant s p in
    let inside = c.exchanges-test.true in
    let items = c.exchanges.auto.opened-items in
    let there = slice_get-get_or c.exchanges.opened-items c.exchanges.opened-index c.opened-item.result (omega (arith, inside, items)) in
    let n = next_of (filter_of s.config) c.args.line.now c.exchanges.opened-index 1 s.exchanges c.exchanges.opened-items lines _ so there in
    (filter_of s.config, n.before, n.rest, sym (ap (λ k. k.answer_limit) p.config))

pub exchanges-preserved : goal.exchanges-preserved
exchanges-preserved c = λ s p.
    let (lines, so, same, text) = c.exchanges.invariant s p in
    let inside = c.exchanges-test.true in
    let items = c.exchanges.auto.opened-items in
    let there = slice_get-get_or c.exchanges.opened-items c.exchanges.opened-index c.opened-item.result (omega (arith, inside, items)) in
    let n = next_of (filter_of s.config) c.args.line.now c.exchanges.opened-index 1 s.exchanges c.exchanges.opened-items lines _ so there in
    elim c.if-is_about.branch [
      | then-is_about+in_ok-meet w ↦
          let limit = sym (ap (λ k. k.answer_limit) p.config) in
          let told = one_met (filter_of s.config) c.args.line.now c.exchanges.x c.exchanges.opened-index s.exchanges c.exchanges.opened-items c.if-is_about.opened-items lines _
          w.meet.new.self c.args.text.now.items c.exchanges.text.items w.meet.new.text.items n same w.if-is_about.ensures
          (w.in_ok-meet.ensures (filter_of s.config) n.before n.rest limit) w.opened-items-is text in
          (told.lines, told.so_far, omega (arith, same), rw w.text-is told.tells)
      | else-is_about w ↦
          let told = one_passed (filter_of s.config) c.args.line.now c.exchanges.x c.exchanges.opened-index s.exchanges c.exchanges.opened-items lines _ c.args.text.now.items
          c.exchanges.text.items n same w.if-is_about.ensures text in
          (told.lines, rw (w.opened-items-is, set-get_or c.exchanges.opened-items c.exchanges.opened-index c.opened-item.result) told.so_far, omega (arith, same), rw w.text-is told.tells)
    ]

pub returns : goal.returns
returns c = λ s p.
    let (lines, so, same, text) = c.exchanges.invariant s p in
    let past = c.exchanges-test.false in
    let items = c.exchanges.auto.opened-items in
    let end = c.exchanges.auto.opened-index-end in
    let value = ap length c.deref_mut-opened-items.ensures.value in
    played_all s c.args.line.now c.exchanges.opened-index c.args.self.now _ c.exchanges.opened-items lines c.args.text.now.items c.exchanges.text.items p (omega (arith, past, items, end))
    (omega (arith, items, value)) so text p.config (c.ticked-self.ensures ∙ ap (ticked c.args.line.now) p.clock) (with_items_is c.args.self.now.exchanges c.exchanges.opened-items (search (rules, places)))
