-- The next head, or one behind a head.
use Rattle.std.proofs.Common.{sym, ◌∙◌, ◌==◌, ap}
use Rattle.h2_model.specs.Calls.{now}
use Rattle.h2_laws_kept.specs.Kept.{Kept}
use Rattle.h2_session.proofs.Agreeing.{first-of-all, may-head-first, open-behind-head}
use Rattle.h2_session.proofs.session.Session.may_head.Goals as goal

pub returns-then-is_headless-clause-may : goal.returns-then-is_headless-clause-may
returns-then-is_headless-clause-may c r h s e =
    may-head-first c.args.self.now (now r h) s.holds c.args.id (sym c.is_headless.ensures.value ∙ c.if-is_headless.true)
    (sym (ap (λ (k : Kept). k.headless == c.args.id) c.self.view_is) ∙ e)

pub returns-then-is_headless-clause-only : goal.returns-then-is_headless-clause-only
returns-then-is_headless-clause-only c r h s m =
    ap (λ (k : Kept). k.headless == c.args.id) c.self.view_is
    ∙ first-of-all c.args.self.now (now r h) s.holds c.args.id (sym c.is_headless.ensures.value ∙ c.if-is_headless.true) m

pub returns-clause-only : goal.returns-clause-only
returns-clause-only c r h s m =
    c.may_send.ensures r h s
    ∙ open-behind-head c.args.self.now (now r h) s.holds c.args.id (sym c.is_headless.ensures.value ∙ c.if-is_headless.false) m
