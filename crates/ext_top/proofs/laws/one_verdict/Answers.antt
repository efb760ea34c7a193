use Rattle.ext_top.proofs.Endings.{decides, one_decided}
use Rattle.ext_top.proofs.laws.one_verdict.Goals as goal

pub returns-clause-decided : goal.returns-clause-decided
returns-clause-decided c = decides

pub returns-clause-one : goal.returns-clause-one
returns-clause-one c = one_decided
