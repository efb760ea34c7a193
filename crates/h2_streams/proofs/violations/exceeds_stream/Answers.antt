-- The stream that is found is the live one.
use Rattle.std.proofs.Common.{◌≡◌, sym, ◌∙◌, ap, rules}
use Rattle.h2_model.specs.State.{found}
use Rattle.h2_streams.proofs.Accounted.{looked, exceeds_by, exceeded}
use Rattle.h2_streams.proofs.violations.exceeds_stream.Goals as goal

pub returns-in-Some : goal.returns-in-Some
returns-in-Some c = λ a e.
    let got : c.get.result ≡ found c.args.id c.args.streams.now.streams = search rules in
    ap (λ o. exceeds_by o c.args.size) (sym c.in-Some.is ∙ looked c.args.id a _ c.get.result e got) ∙ sym (exceeded c.args.id c.args.size a)

pub returns-in-None : goal.returns-in-None
returns-in-None c = λ a e.
    let got : c.get.result ≡ found c.args.id c.args.streams.now.streams = search rules in
    ap (λ o. exceeds_by o c.args.size) (sym c.in-None.is ∙ looked c.args.id a _ c.get.result e got) ∙ sym (exceeded c.args.id c.args.size a)
