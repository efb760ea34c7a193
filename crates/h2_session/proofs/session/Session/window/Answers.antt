-- The window is the initial size and the stream's credit.
use Rattle.std.proofs.Common.{◌≡◌, Some, None, pos, ◌+ℤ◌, sym, ◌∙◌, ap, arith}
use Rattle.std.proofs.lemmas.Int.{ints}
use Rattle.h2_model.specs.Calls.{now}
use Rattle.h2_model.specs.State.{stream_of_log, found}
use Rattle.h2_session.proofs.Standing.{asked-live}
use Rattle.h2_laws_kept.proofs.Answers.{stream-window-is}
use Rattle.h2_laws_kept.proofs.Handing.{stream-found}
use Rattle.h2_streams.specs.Tables.{HasCreditInRange}
use Rattle.h2_laws_kept.specs.Kept.{Kept}
use Rattle.h2_session.proofs.session.Session.window.Goals as goal

pub returns-in-Some-clause-value : goal.returns-in-Some-clause-value
returns-in-Some-clause-value c = λ r h s.
    let k : Kept = c.args.self.now in
    let is : found c.args.id k.state.streams ≡ Some c.in-Some.stream =
    sym (ap (λ (l : Kept). found c.args.id l.state.streams) c.self.view_is) ∙ sym c.get.ensures.stream ∙ c.in-Some.is in
    let window = stream-window-is k (now r h) s.holds c.args.id (asked-live k c.args.id c.requires r h s) c.in-Some.stream is in
    let initial : c.self.inside.initial ≡ k.state.initial = ap (λ (l : Kept). l.state.initial) c.self.view_is in
    let range : HasCreditInRange c.in-Some.stream = c.in-Some.ensures.range in
    let low = range.low in
    let high = range.high in
    let from = c.from.ensures in
    let same : pos c.self.inside.initial +ℤ c.in-Some.stream.credit ≡ pos k.state.initial +ℤ c.in-Some.stream.credit =
    ap (λ n. pos n +ℤ c.in-Some.stream.credit) initial in
    omega (arith, ints, window, same, low, high, from)

pub returns-in-None-clause-value : goal.returns-in-None-clause-value
returns-in-None-clause-value c = λ r h s.
    let k : Kept = c.args.self.now in
    let is : found c.args.id k.state.streams ≡ None =
    sym (ap (λ (l : Kept). found c.args.id l.state.streams) c.self.view_is) ∙ sym c.get.ensures.stream ∙ c.in-None.is in
    let there : found c.args.id k.state.streams ≡ Some (stream_of_log c.args.id (now r h)) =
    stream-found k (now r h) s.holds c.args.id (asked-live k c.args.id c.requires r h s) in
    absurd cc

pub returns-in-Some-clause-credit : goal.returns-in-Some-clause-credit
returns-in-Some-clause-credit c = λ t e.
    let k : Kept = c.args.self.now in
    let is : found c.args.id k.state.streams ≡ Some c.in-Some.stream =
    sym (ap (λ (l : Kept). found c.args.id l.state.streams) c.self.view_is) ∙ sym c.get.ensures.stream ∙ c.in-Some.is in
    let same : t ≡ c.in-Some.stream = cc in
    let credit : t.credit ≡ c.in-Some.stream.credit = ap (λ s. s.credit) same in
    let initial : c.self.inside.initial ≡ k.state.initial = ap (λ (l : Kept). l.state.initial) c.self.view_is in
    let range : HasCreditInRange c.in-Some.stream = c.in-Some.ensures.range in
    let low = range.low in
    let high = range.high in
    let from = c.from.ensures in
    rw (credit, ← initial) (omega (arith, ints, low, high, from), omega (arith, ints, low, high, from))
