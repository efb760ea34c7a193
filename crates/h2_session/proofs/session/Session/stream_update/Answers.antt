-- What is looked up is the account's stream, with its unreturned bytes.
use Rattle.std.proofs.Common.{◌≡◌, ◌∙◌, sym, ap, subst}
use Rattle.h2_laws_kept.specs.Kept.{Kept}
use Rattle.h2_session.specs.Steps.{IsOn}
use Rattle.h2_session.proofs.Judged.{its-stream, no-stream, owed-none, owed-shut, owed-open}
use Rattle.h2_model.specs.State.{found}
use Rattle.h2_session.proofs.session.Session.stream_update.Goals as goal

pub returns-in-None : goal.returns-in-None
returns-in-None c = λ b o f.
    let on : IsOn _ b = subst (λ (l : Kept). IsOn l b) (sym c.self.view_is) o in
    owed-none b c.args.id c.args.last _ (no-stream _ b c.args.id on.streams (sym c.in-None.is ∙ c.get.ensures.stream))

pub returns-then-is_shut : goal.returns-then-is_shut
returns-then-is_shut c = λ b o f.
    let on : IsOn _ b = subst (λ (l : Kept). IsOn l b) (sym c.self.view_is) o in
    let x = its-stream _ b c.args.id c.in-Some.stream on.streams (sym c.in-Some.is ∙ c.get.ensures.stream) in
    owed-shut b c.args.id c.args.last c.in-Some.stream c.is_headless.result _ x
    (c.is_headless.ensures.value ∙ o.headless c.args.id) (sym c.is_shut.ensures ∙ c.if-is_shut.true)

pub returns-else-is_shut : goal.returns-else-is_shut
returns-else-is_shut c = λ b o f.
    let on : IsOn _ b = subst (λ (l : Kept). IsOn l b) (sym c.self.view_is) o in
    let x = its-stream _ b c.args.id c.in-Some.stream on.streams (sym c.in-Some.is ∙ c.get.ensures.stream) in
    owed-open b c.args.id c.args.size c.args.last c.in-Some.stream c.is_headless.result _ x
    (c.is_headless.ensures.value ∙ o.headless c.args.id) (sym c.is_shut.ensures ∙ c.if-is_shut.false)
    (c.due.ensures c.args.id (f c.in-Some.stream (there ∙ sym (sym c.in-Some.is ∙ c.get.ensures.stream))))
  where
    there : found c.args.id c.args.self.now.state.streams ≡ found c.args.id c.self.inside.streams.streams
    there = ap (λ (l : Kept). found c.args.id l.state.streams) (sym c.self.view_is)
