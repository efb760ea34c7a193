use Rattle.std.proofs.Common.{arith, subst, ◌≡◌}
use Rattle.std.proofs.lemmas.List.{get_or_default}
use Rattle.h2_streams.proofs.Places.{absent, unequal}
use Rattle.h2_streams.proofs.table.search.Goals as goal

pub returns-then-at-streams-clause-none : goal.returns-then-at-streams-clause-none
returns-then-at-streams-clause-none c = absent c.args.streams.now c.args.id c.place-at.result c.requires c.place-at.ensures.below c.place-at.ensures.above
    (λ d l. absurd (omega (arith, l, c.if-at-streams.true)))

pub returns-then-streams-at-clause-none : goal.returns-then-streams-at-clause-none
returns-then-streams-at-clause-none c = absent c.args.streams.now c.args.id c.place-at.result c.requires c.place-at.ensures.below c.place-at.ensures.above
    (λ d l. unequal _ _ (λ e. c.if-streams-at.true (subst (λ s. s.id ≡ c.args.id) (get_or_default c.args.streams.now c.place-at.result d _ l) e)))
