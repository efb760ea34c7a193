use Rattle.filter_model.proofs.RightAlong.{right_along}
use Rattle.filter_model.proofs.WholeAlong.{whole_along}
use Rattle.trace_model.proofs.laws.each_is_right.Goals as goal

pub returns : goal.returns
returns c = λ c x before met after lines g. (right_along c after.calls g.right, whole_along c after.calls g.right)
