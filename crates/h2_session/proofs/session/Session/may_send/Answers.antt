-- Its stream says whether this side ended it.
use Rattle.std.proofs.Common.{sym, ◌∙◌, ap}
use Rattle.h2_model.specs.Account.{Account}
use Rattle.h2_model.specs.Calls.{now}
use Rattle.h2_laws_kept.specs.Kept.{Kept}
use Rattle.h2_session.proofs.Judged.{its-openness, its-stream, no-openness, no-stream, seen-streams}
use Rattle.h2_session.proofs.session.Session.may_send.Goals as goal

pub returns-in-Some : goal.returns-in-Some
returns-in-Some c r h s =
    let a : Account = now r h in
    let kept = ap (λ (k : Kept). k.state.streams) c.self.view_is ∙ seen-streams c.args.self.now.state a s.holds.state in
    its-openness c.in-Some.stream c.args.id a
    (its-stream c.self.inside.streams.streams a c.args.id c.in-Some.stream kept (sym c.in-Some.is ∙ c.get.ensures.stream))

pub returns-in-None : goal.returns-in-None
returns-in-None c r h s =
    let a : Account = now r h in
    let kept = ap (λ (k : Kept). k.state.streams) c.self.view_is ∙ seen-streams c.args.self.now.state a s.holds.state in
    no-openness c.args.id a (no-stream c.self.inside.streams.streams a c.args.id kept (sym c.in-None.is ∙ c.get.ensures.stream))
