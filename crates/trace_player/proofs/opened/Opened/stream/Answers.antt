use Rattle.std.proofs.Common.{refl}
use Rattle.trace_player.proofs.PlayedRounds.{streamed}
use Rattle.trace_player.proofs.PlayedTells.{then_none, then_some}
use Rattle.trace_player.proofs.opened.Opened.stream.Goals as goal

pub stream-requires : goal.stream-requires
stream-requires c = let (k, m, t) = c.requires in (k, m.calls, t.after, t.ready)

pub returns-then-is_none : goal.returns-then-is_none
returns-then-is_none c = λ k m t.
    let d = c.in_ok-streamed.ensures k m.calls t.after in
    streamed k m c.args.self.now _ c.args.brought.now _ c.in_ok-streamed.streamed.asks.items c.in_ok-streamed.streamed.ending c.gave_some-some.result t d
    refl refl refl refl refl c.in_ok-add_asks.ensures (then_none c.args.brought.now.ending c.in_ok-streamed.streamed.ending c.if-is_none.ensures) refl refl
    (c.gave_some-some.ensures d.nexts d.due d.asked d.ended)

pub returns-else-is_none : goal.returns-else-is_none
returns-else-is_none c = λ k m t.
    let d = c.in_ok-streamed.ensures k m.calls t.after in
    streamed k m c.args.self.now _ c.args.brought.now _ c.in_ok-streamed.streamed.asks.items c.in_ok-streamed.streamed.ending c.gave_some-some.result t d
    refl refl refl refl refl c.in_ok-add_asks.ensures (then_some c.args.brought.now.ending c.in_ok-streamed.streamed.ending c.if-is_none.ensures) refl refl
    (c.gave_some-some.ensures d.nexts d.due d.asked d.ended)
