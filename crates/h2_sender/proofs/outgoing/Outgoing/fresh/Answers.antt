-- Nothing of a fresh frame was given.
use Rattle.std.proofs.Common.{refl}
use Rattle.h2_sender.specs.Outgoing.{written}
use Rattle.h2_sender.proofs.outgoing.Outgoing.fresh.Goals as goal

pub returns : goal.returns
unfolding written
returns c = refl
