use Rattle.std.proofs.Common.{refl, ◌++◌}
use Rattle.trace_player.proofs.PlayedLines.{gone}
use Rattle.trace_player.proofs.opened.Opened.tell.Goals as goal

pub returns : goal.returns
returns c = λ k before m s.
    let p = c.in_ok-brought.ensures k m s.tied in
    gone k c.args.x before m c.args.self.now c.play.new.self _ c.in_ok-brought.brought c.args.text.now.items c.write.new.text.items s p refl refl refl refl
    c.is_over-client_ended.ensures c.is_over-up_ended.ensures
    (c.in_ok-write.ensures before (p.calls ++ s.calls) (s.silent c.in_ok-brought.brought p.calls p.tells) s.ends.client s.ends.up)
