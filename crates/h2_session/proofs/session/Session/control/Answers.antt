-- The queue's count is the account's.
use Rattle.std.proofs.Common.{min, ◌∙◌, ap, sym}
use Rattle.h2_model.specs.Calls.{now}
use Rattle.h2_sender.specs.Sending.{control_of}
use Rattle.h2_laws_kept.specs.Kept.{Kept}
use Rattle.h2_laws_kept.proofs.Answers.{control-is}
use Rattle.h2_session.proofs.session.Session.control.Goals as goal

pub returns : goal.returns
returns c = λ r h s. c.control.ensures
    ∙ ap (λ (k : Kept). min (control_of k.state.waiting k.state.held) 18446744073709551615) c.self.view_is
    ∙ ap (λ n. min n 18446744073709551615) (sym (control-is c.args.self.now (now r h) s.holds))
