-- A window update of the connection, or of a stream.
use Rattle.std.proofs.Common.{refl, sym, ◌∙◌}
use Rattle.h2_session.proofs.Charges.{charged-connection, charged-stream}
use Rattle.h2_session.proofs.session.Session.give_back.Goals as goal

pub returns-then-id-ne0-clause-state : goal.returns-then-id-ne0-clause-state
returns-then-id-ne0-clause-state c =
    c.give_back_on.ensures.state ∙ sym (charged-stream c.args.id c.args.n c.args.self.now.state c.if-id-ne0.true)

pub returns-clause-state : goal.returns-clause-state
returns-clause-state c =
    rw (charged-connection c.args.id c.args.n c.args.self.now.state c.if-id-ne0.false, ← c.self.view_is, c.saturating_sub-self-inside.ensures) refl
