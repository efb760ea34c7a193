-- What is owed is charged, kind by kind.
use Rattle.std.proofs.Common.{sym, ◌∙◌, le_refl}
use Rattle.h2_session.proofs.Charges.{charged-update, charged-reset, charged-other}
use Rattle.h2_session.proofs.Standing.{capacity-itself}
use Rattle.h2_session.proofs.session.Session.charge.Goals as goal

pub returns-in-Window-clause-state : goal.returns-in-Window-clause-state
returns-in-Window-clause-state c =
    c.give_back.ensures.state ∙ sym (charged-update c.args.frame.now c.in-Window.id c.in-Window.n c.args.self.now.state c.in-Window.is)

pub returns-in-Reset-clause-state : goal.returns-in-Reset-clause-state
returns-in-Reset-clause-state c =
    c.over.ensures.state ∙ sym (charged-reset c.args.frame.now c.in-Reset.id c.in-Reset.field-1 c.args.self.now.state c.in-Reset.is)

pub returns-in_default : goal.returns-in_default
returns-in_default c = record {
  state = charged-other c.args.frame.now c.args.self.now.state c.in_default.not-Reset c.in_default.not-Window;
  same = search;
  capacity = capacity-itself c.args.self.now;
  room = le_refl c.args.self.now.room;
  held = le_refl c.args.self.now.held_room;
}
