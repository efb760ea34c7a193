-- Each byte is the preface's next, or the first that differs.
use Rattle.std.proofs.Common.{◌≡◌, ◌<◌, ◌+◌, arith, sym, ◌∙◌, ap, subst}
use Rattle.std.specs.List.{slice_index}
use Rattle.h2_model.specs.History.{preface}
use Rattle.h2_session.specs.Feeding.{Reaches, RefusesBytes}
use Rattle.h2_session.proofs.Endings.{if-code}
use Rattle.h2_session.proofs.Reading.{byte-comes, other-byte}
use Rattle.h2_session.proofs.session.Session.greet.Goals as goal

pub returns-then-bytes-used-clause-refuses : goal.returns-then-bytes-used-clause-refuses
returns-then-bytes-used-clause-refuses c a h =
    let k = c.loop-self.self in
    let r : Reaches k a c.args.bytes.now c.loop-self.used = c.loop-self.invariant.1 a h in
    let at : c.self.inside.greeted ≡ k.greeted = ap (λ x. x.greeted) c.self.view_is in
    let short : k.greeted < 24 = subst (λ x. x < 24) at c.loop-self-test.true in
    if-code (λ code p. subst (RefusesBytes c.fail.new.self a c.args.bytes.now) (sym p.0)
    (other-byte k a r.reached c.args.bytes.now c.loop-self.used r.runs short c.if-used-bytes.true
    (λ q. c.if-bytes-used.true (q ∙ ap (slice_index preface) (sym at))) c.fail.new.self p.1))
    c.fail.result (c.fail.ensures.fails r.reached r.runs.holds r.runs.sound)

pub loop-self-preserved : goal.loop-self-preserved
loop-self-preserved c = (
  omega (arith, c.if-used-bytes.true),
  (λ a h.
      let k = c.loop-self.self in
      let r : Reaches k a c.args.bytes.now c.loop-self.used = c.loop-self.invariant.1 a h in
      let at : c.self.inside.greeted ≡ k.greeted = ap (λ x. x.greeted) c.self.view_is in
      let short : k.greeted < 24 = subst (λ x. x < 24) at c.loop-self-test.true in
      subst (λ x. Reaches (record x { greeted = x.greeted + 1 }) a c.args.bytes.now (c.loop-self.used + 1)) (sym c.self.view_is)
      (byte-comes k a r.reached c.args.bytes.now c.loop-self.used r.runs short c.if-used-bytes.true
      (c.if-bytes-used.false ∙ ap (slice_index preface) at))),
  record {
    client = ap (λ x. x.client) c.self.view_is ∙ c.loop-self.invariant.2.client;
    streams = ap (λ x. x.streams) c.self.view_is ∙ c.loop-self.invariant.2.streams;
  },
)
