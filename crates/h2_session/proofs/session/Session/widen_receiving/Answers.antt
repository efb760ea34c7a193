-- A window update widens the window that it names.
use Rattle.std.proofs.Common.{◌≡◌, ◌<◌, ◌+◌, ◌^◌, sym, ◌∙◌, ap, subst, arith}
use Rattle.h2_frames.specs.declared.frame.Frame.TheVariants as frame
use Rattle.h2_model.specs.Moves.{giving}
use Rattle.h2_session.specs.Keeping.{CanGive}
use Rattle.h2_session.proofs.Parts.{counts, given-connection, given-stream}
use Rattle.h2_session.specs.contracts.session.Session.{the_view}
use Rattle.h2_laws_kept.specs.Kept.{Kept}
use Rattle.h2_session.proofs.session.Session.widen_receiving.Goals as goal

pub returns-then-id-eq0-clause-state : goal.returns-then-id-eq0-clause-state
returns-then-id-eq0-clause-state c = λ h.
    let k : Kept = the_view c.self.inside in
    let fits : c.args.self.now.state.receive + c.args.n < 2 ^ 32 =
    subst (λ id. CanGive id c.args.n c.args.self.now.state) c.if-id-eq0.true h in
    let same : c.self.inside.receive ≡ c.args.self.now.state.receive = ap (λ (l : Kept). l.state.receive) c.self.view_is in
    given-connection c.args.id c.args.n k.state _ c.if-id-eq0.true
    (omega (arith, c.saturating_add-self-inside.ensures, same, fits))
    ∙ ap (λ (l : Kept). giving (frame.Window c.args.id c.args.n) l.state) c.self.view_is

pub returns-clause-state : goal.returns-clause-state
returns-clause-state c = λ h.
    let k : Kept = the_view c.self.inside in
    let fits : CanGive c.args.id c.args.n k.state = subst (λ (l : Kept). CanGive c.args.id c.args.n l.state) (sym c.self.view_is) h in
    given-stream c.args.id c.args.n k.state _ c.if-id-eq0.false
    (c.change.ensures.streams (counts c.args.id c.args.n k.state c.if-id-eq0.false fits))
    ∙ ap (λ (l : Kept). giving (frame.Window c.args.id c.args.n) l.state) c.self.view_is
