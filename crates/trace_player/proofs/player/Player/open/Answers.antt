use Rattle.std.proofs.Common.{ap, arith}
use Rattle.trace_player.proofs.PlayedOpens.{full, opened}
use Rattle.trace_player.proofs.player.Player.open.Goals as goal

pub returns-then-len-self : goal.returns-then-len-self
returns-then-len-self c = λ s p.
    let most = c.if-len-self.true in
    let config = ap (λ k. k.max_exchanges) p.config in
    let len = c.len.ensures in
    full s c.args.self.now c.args.text.now.items c.push.new.text.items p (omega (arith, most, config, len)) c.in_ok-push.ensures

pub returns : goal.returns
returns c = λ s p.
    let fewer = c.if-len-self.false in
    let config = ap (λ k. k.max_exchanges) p.config in
    let len = c.len.ensures in
    let number = c.len-2.ensures in
    let most = p.valid.max_exchanges.1 in
    opened s c.args.self.now _ c.in_ok-opened.opened _ c.args.text.now.items c.open.new.text.items p (omega (arith, fewer, config, len)) (omega (arith, fewer, config, len, number, most))
    (rw (p.config, p.clock) at c.in_ok-opened.ensures) p.config p.clock c.in_ok-push-2.ensures.items
