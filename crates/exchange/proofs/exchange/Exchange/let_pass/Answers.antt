use Rattle.exchange.proofs.Releasing.{passes}
use Rattle.exchange.proofs.exchange.Exchange.let_pass.Goals as goal

pub returns-clause-passes : goal.returns-clause-passes
returns-clause-passes c f a b n ends t p =
    passes f a b n ends c.args.self.now c.release.new.self c.release-2.new.self p t (c.release.ensures t.request.story.past t.request.stands.half) (c.release-2.ensures t.response.story.past t.response.stands.half)
