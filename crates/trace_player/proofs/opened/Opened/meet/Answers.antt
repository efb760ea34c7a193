use Rattle.trace_model.specs.Links.{arrived}
use Rattle.trace_player.proofs.PlayedMeets.{may_meet}
use Rattle.trace_player.proofs.opened.Opened.meet.Goals as goal

pub returns : goal.returns
returns c = λ k m r e.
    c.in_ok-tell.ensures k m.calls (arrived k c.args.line.now m)
    (may_meet k m c.args.line.now c.args.self.now c.arrive.new.self r (c.in_ok-arrive.ensures.tied k m r.tied e) c.arrive.ensures.overs)

pub tell-requires : goal.tell-requires
tell-requires c =
    let (k, m, r, e) = c.requires in
    (k, arrived k c.args.line.now m, c.in_ok-arrive.ensures.tied k m r.tied e)
