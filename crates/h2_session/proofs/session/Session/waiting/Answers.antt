-- What wasn't given is what the account says.
use Rattle.std.proofs.Common.{◌∙◌, ap, sym}
use Rattle.h2_model.specs.Calls.{now}
use Rattle.h2_sender.specs.Sending.{unsent_of}
use Rattle.h2_laws_kept.specs.Kept.{Kept}
use Rattle.h2_laws_kept.proofs.Answers.{unsent-is}
use Rattle.h2_session.proofs.session.Session.waiting.Goals as goal

pub returns : goal.returns
returns c = λ r h s. c.unsent.ensures ∙ ap (λ (k : Kept). unsent_of c.args.id k.state.waiting k.state.held) c.self.view_is
    ∙ sym (unsent-is c.args.self.now (now r h) s.holds c.args.id)
