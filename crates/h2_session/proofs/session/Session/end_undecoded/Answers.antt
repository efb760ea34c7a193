-- The code of the fault ends the session.
use Rattle.std.proofs.Common.{Some, sym, ◌∙◌, ap, subst}
use Rattle.h2_session.specs.Arrivals.{Fails}
use Rattle.h2_session.proofs.Endings.{if-code}
use Rattle.h2_session.proofs.session.Session.end_undecoded.Goals as goal

pub returns-clause-coded : goal.returns-clause-coded
returns-clause-coded c = if-code (λ told p. (
  sym c.code_of.ensures ∙ c.in-Some.is ∙ ap Some (sym p.0),
  subst (λ code. Fails code c.args.self.now c.fail.new.self) (sym p.0) p.1,
)) c.fail.result c.fail.ensures.ended
