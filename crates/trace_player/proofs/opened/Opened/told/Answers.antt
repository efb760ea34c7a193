use Rattle.trace_player.proofs.Told.{may_plain, plain_told}
use Rattle.trace_player.proofs.opened.Opened.told.Goals as goal

pub step-requires : goal.step-requires
step-requires c =
    let (k, m, t) = c.requires.some in
    (k, m.calls, t.after, may_plain k m.calls c.args.event t.ready c.requires.plain)

pub returns-clause-tied : goal.returns-clause-tied
returns-clause-tied c = λ k m t.
    plain_told k m c.args.self.now c.step.new.self c.args.event c.in_ok-step.field-0 t c.requires.plain
    (c.in_ok-step.ensures.stands k m.calls t.after (may_plain k m.calls c.args.event t.ready c.requires.plain))
