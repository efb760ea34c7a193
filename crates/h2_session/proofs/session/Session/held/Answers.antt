-- What is kept is what the account says, before a connection error and after it.
use Rattle.std.proofs.Common.{is_some, min, sym, ◌∙◌, ap}
use Rattle.h2_model.specs.Calls.{now}
use Rattle.h2_sender.specs.Sending.{control_of}
use Rattle.h2_laws_kept.specs.Kept.{Kept}
use Rattle.h2_laws_kept.proofs.Holding.{violation-kept}
use Rattle.h2_session.proofs.Holdings.{kept-after, kept-before, none-there}
use Rattle.h2_session.proofs.session.Session.held.Goals as goal

pub returns-then-is_some : goal.returns-then-is_some
returns-then-is_some c r h s =
    let k : Kept = c.args.self.now in
    kept-after k (now r h) c.control-waiting.result 18446744073709551615 s.holds
    (ap is_some (sym (ap (λ (l : Kept). l.state.violation) c.self.view_is ∙ violation-kept k (now r h) s.holds)) ∙ sym c.is_some.ensures ∙ c.if-is_some.true)
    (c.control-waiting.ensures ∙ ap (λ (l : Kept). min (control_of l.state.waiting l.state.held) 18446744073709551615) c.self.view_is)

pub returns : goal.returns
returns c r h s =
    let k : Kept = c.args.self.now in
    c.saturating_add.ensures
    ∙ kept-before k (now r h) c.control-waiting.result c.input.result 18446744073709551615 s.holds
    (sym (ap (λ (l : Kept). l.state.violation) c.self.view_is ∙ violation-kept k (now r h) s.holds)
    ∙ none-there c.self.inside.violation (sym c.is_some.ensures ∙ c.if-is_some.false))
    (c.control-waiting.ensures ∙ ap (λ (l : Kept). min (control_of l.state.waiting l.state.held) 18446744073709551615) c.self.view_is)
    c.input.ensures
