-- Nothing of the first SETTINGS was given.
use Rattle.std.proofs.Common.{refl}
use Rattle.h2_sender.specs.Outgoing.{written}
use Rattle.h2_sender.proofs.outgoing.Outgoing.first.Goals as goal

pub returns : goal.returns
unfolding written
returns c = refl
