-- What waits is what the account says.
use Rattle.std.proofs.Common.{◌∙◌, ap, sym}
use Rattle.h2_model.specs.Calls.{now}
use Rattle.h2_sender.specs.Sending.{waits_in}
use Rattle.h2_laws_kept.specs.Kept.{Kept}
use Rattle.h2_laws_kept.proofs.Answers.{waits-is}
use Rattle.h2_session.proofs.session.Session.waits.Goals as goal

pub returns : goal.returns
returns c = λ r h s. c.waits.ensures ∙ ap (λ (k : Kept). waits_in c.args.id k.state.waiting k.state.held) c.self.view_is
    ∙ sym (waits-is c.args.self.now (now r h) s.holds c.args.id)
