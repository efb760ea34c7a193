-- What is told, kind by kind.
use Rattle.std.proofs.Common.{sym, ◌∙◌}
use Rattle.h2_session.proofs.Told.{told-head, told-reset, told-other}
use Rattle.h2_session.proofs.session.Session.tell.Goals as goal

pub returns-in-Head-clause-state : goal.returns-in-Head-clause-state
returns-in-Head-clause-state c = c.tell_head.ensures.state ∙ sym (told-head c.args.event.now _ _ _ c.args.self.now.state c.in-Head.is)

pub returns-in-Reset-clause-state : goal.returns-in-Reset-clause-state
returns-in-Reset-clause-state c = c.over.ensures.state ∙ sym (told-reset c.args.event.now _ _ c.args.self.now.state c.in-Reset.is)

pub returns-in_default-clause-state : goal.returns-in_default-clause-state
returns-in_default-clause-state c = told-other c.args.event.now c.args.self.now.state c.in_default.not-Head c.in_default.not-Reset
