use Rattle.filter_model.proofs.RightAlong.{right_along}
use Rattle.filter_model.proofs.WholeAlong.{whole_along}
use Rattle.filter_model.proofs.laws.headline.Goals as goal

pub returns : goal.returns
returns c = λ c h s. (right_along c h s, whole_along c h s)
