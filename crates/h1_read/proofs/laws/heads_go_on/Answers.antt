use Rattle.h1_read.proofs.StateLaw.{heads_go_on}
use Rattle.h1_read.proofs.laws.heads_go_on.Goals as goal

pub returns : goal.returns
returns c = heads_go_on
