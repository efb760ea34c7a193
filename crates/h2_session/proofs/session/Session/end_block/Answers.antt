-- A block that ends its stream.
use Rattle.std.proofs.Common.{refl}
use Rattle.h2_streams.specs.Changes.{changed}
use Rattle.h2_session.proofs.session.Session.end_block.Goals as goal

pub returns-in-Some-clause-state : goal.returns-in-Some-clause-state
unfolding changed
returns-in-Some-clause-state c = rw (c.in-Some.is, ← c.self.view_is, c.change.ensures.streams (λ t e. tt)) refl
