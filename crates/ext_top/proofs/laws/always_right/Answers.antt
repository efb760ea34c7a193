use Rattle.trace_model.specs.Places.{First}
use Rattle.ext_top.proofs.Exchanges.{right_along}
use Rattle.ext_top.proofs.laws.always_right.Goals as goal

pub returns : goal.returns
returns c = λ lines text p steps. right_along 0 First lines text p tt steps
