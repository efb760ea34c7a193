-- What went out whole is given.
use Rattle.std.proofs.Common.{◌≡◌, Some, sym, ◌∙◌}
use Rattle.h2_session.proofs.Updates.{no-update, update-is}
use Rattle.h2_session.specs.Keeping.{update_in}
use Rattle.h2_session.proofs.session.Session.note_given.Goals as goal

pub returns-in-Some-clause-state : goal.returns-in-Some-clause-state
returns-in-Some-clause-state c = λ h.
    let is : update_in c.args.whole.now ≡ Some (c.in-Some.id, c.in-Some.n) = sym c.update_in.ensures ∙ c.in-Some.is in
    let both = update-is c.in-Some.id c.in-Some.n c.args.self.now.state c.args.whole.now is h in
    c.widen_receiving.ensures.state both.0 ∙ sym both.1

pub returns-in_default-clause-state : goal.returns-in_default-clause-state
returns-in_default-clause-state c = λ h. sym (no-update c.args.self.now.state c.args.whole.now (sym c.update_in.ensures ∙ c.in_default.is))
