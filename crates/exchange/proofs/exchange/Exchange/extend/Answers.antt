use Rattle.std.proofs.Common.{◌∙◌, ap, arith, subst, sym, ◌≡◌, ◌+ℤ◌, ◌*ℤ◌, pos}
use Rattle.filter_model.specs.Answers.{override_ms, valid_ms}
use Rattle.http_model.specs.declared.types.Direction.TheVariants.{Request, Response}
use Rattle.exchange.specs.Stands.{AtRest, handed_out}
use Rattle.exchange.specs.Answering.{extended_in}
use Rattle.exchange.proofs.TimingExtends.{none_extended, none_out, request_extended, response_extended, some_out}
use Rattle.exchange.proofs.exchange.Exchange.extend.Goals as goal

pub returns-then-asks_out-gt0-clause-ties : goal.returns-then-asks_out-gt0-clause-ties
returns-then-asks_out-gt0-clause-ties c = λ k a b n ends m t e.
    let x = c.args.self.now in
    let s = c.args.span in
    let v : c.valid_ms-ms.result ≡ override_ms k s = c.valid_ms-ms.ensures ∙ ap (λ u. valid_ms u (s.seconds *ℤ pos 1_000_000_000 +ℤ s.nanos)) m.settings.max_timeout_ms in
    let o = some_out k Request a (handed_out n x.ready) x.waiting x.request c.asks_out.result t.request e.live (c.asks_out.ensures t.request.story.past t.request.stands.half) c.if-asks_out-gt0.true in
    c.settle_ending.ensures.ends k b n ends
    (subst (λ f. AtRest k b n ends (record x { request = f })) (sym (c.extend.ensures ∙ ap (λ u. extended_in x.clock u x.request) v)) (request_extended k s a b n ends x t e o))

pub returns-then-asks_out-gt0-2-clause-ties : goal.returns-then-asks_out-gt0-2-clause-ties
returns-then-asks_out-gt0-2-clause-ties c = λ k a b n ends m t e.
    let x = c.args.self.now in
    let s = c.args.span in
    let v : c.valid_ms-ms.result ≡ override_ms k s = c.valid_ms-ms.ensures ∙ ap (λ u. valid_ms u (s.seconds *ℤ pos 1_000_000_000 +ℤ s.nanos)) m.settings.max_timeout_ms in
    let z = c.if-asks_out-gt0.false in
    let o = none_out k Request a (handed_out n x.ready) x.waiting x.request c.asks_out.result t.request e.live (c.asks_out.ensures t.request.story.past t.request.stands.half) (λ p. absurd (omega (arith, p, z))) in
    let r = some_out k Response a (handed_out n x.ready) x.waiting x.response c.asks_out-2.result t.response e.live (c.asks_out-2.ensures t.response.story.past t.response.stands.half) c.if-asks_out-gt0-2.true in
    c.settle_ending-then-asks_out-gt0-2.ensures.ends k b n ends
    (subst (λ f. AtRest k b n ends (record x { response = f })) (sym (c.extend-then-asks_out-gt0-2.ensures ∙ ap (λ u. extended_in x.clock u x.response) v)) (response_extended k s a b n ends x t e o r))

pub returns-clause-ties : goal.returns-clause-ties
returns-clause-ties c = λ k a b n ends m t e.
    let x = c.args.self.now in
    let z = c.if-asks_out-gt0.false in
    let y = c.if-asks_out-gt0-2.false in
    let o = none_out k Request a (handed_out n x.ready) x.waiting x.request c.asks_out.result t.request e.live (c.asks_out.ensures t.request.story.past t.request.stands.half) (λ p. absurd (omega (arith, p, z))) in
    let r = none_out k Response a (handed_out n x.ready) x.waiting x.response c.asks_out-2.result t.response e.live (c.asks_out-2.ensures t.response.story.past t.response.stands.half) (λ p. absurd (omega (arith, p, y))) in
    c.settle_ending-2.ensures.ends k b n ends (none_extended k c.args.span a b n ends x t e o r)
