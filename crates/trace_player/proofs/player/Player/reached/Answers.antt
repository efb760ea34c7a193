use Rattle.std.proofs.Common.{refl, sym, Some, None, ◌-◌, length, arith}
use Rattle.std.proofs.lemmas.Bool.{ltb-true, ltb-false}
use Rattle.std.proofs.lemmas.Option.{slice_get_past, slice_get_read}
use Rattle.trace_player.proofs.Reached.{reached_below}
use Rattle.trace_player.proofs.player.Player.reached.Goals as goal

pub returns-in-Some : goal.returns-in-Some
returns-in-Some c = λ s p.
    let above = c.if-x-eq0.false in
    let items = c.as_slice.result.now in
    let inside = ltb-true (c.args.x - 1) (length items) (sym c.in-Some.ensures.lookup.0) in
    let there = slice_get_read items (length items) (c.args.x - 1) c.in-Some.opened.now refl inside c.in-Some.ensures.lookup.1 in
    reached_below c.args.x (c.args.x - 1) s c.args.self.now (Some c.in-Some.opened.now) p (omega (arith, above)) (rw c.as_slice.ensures.value at there)

pub returns-in-None : goal.returns-in-None
returns-in-None c = λ s p.
    let above = c.if-x-eq0.false in
    let items = c.as_slice.result.now in
    let there = slice_get_past items (c.args.x - 1) (ltb-false (c.args.x - 1) (length items) (sym c.in-None.ensures.lookup.0)) in
    reached_below c.args.x (c.args.x - 1) s c.args.self.now None p (omega (arith, above)) (rw c.as_slice.ensures.value at there)
