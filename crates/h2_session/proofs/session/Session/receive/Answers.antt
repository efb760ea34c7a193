-- The first frame counts as the others do.
use Rattle.std.proofs.Common.{◌≡◌, sym, ◌∙◌, ap, false, subst}
use Rattle.std.proofs.lemmas.Result.{on_ok_weaker}
use Rattle.h2_model.specs.State.{State}
use Rattle.h2_model.specs.Moves.{receiving}
use Rattle.h2_session.specs.Steps.{CanCount, CanTake, IsAbsorbed}
use Rattle.h2_session.proofs.Counting.{first-receives, first-counts, first-takes, first-absorbed}
use Rattle.h2_session.proofs.session.Session.receive.Goals as goal

pub returns-clause-state : goal.returns-clause-state
returns-clause-state c = λ u v.
    let s : State = c.args.self.now.state in
    let begun : c.begin.new.self.state ≡ record s { first = false } = c.begin.ensures.state in
    on_ok_weaker c.count.result (λ e. e ∙ ap (receiving c.args.frame.now) begun ∙ first-receives c.args.frame.now s)
    (c.count.ensures.state (subst (CanCount c.args.frame.now) (sym begun) (first-counts c.args.frame.now s u))
    (subst (CanTake c.args.frame.now) (sym begun) (first-takes c.args.frame.now s v)))

pub returns-clause-faulty : goal.returns-clause-faulty
returns-clause-faulty c =
    let s : State = c.args.self.now.state in
    let begun : c.begin.new.self.state ≡ record s { first = false } = c.begin.ensures.state in
    on_ok_weaker c.count.result (λ h. first-absorbed c.args.frame.now s c.count.new.self.state
    (subst (λ (x : State). IsAbsorbed c.args.frame.now x c.count.new.self.state) begun h)) c.count.ensures.faulty
