use Rattle.std.proofs.Common.{refl}
use Rattle.h1_outlet.proofs.OfHalves.{body_counted, given_where, may_put}
use Rattle.h1_outlet.proofs.laws.outlet_of_half.Goals as goal

pub returns : goal.returns
returns c = record { put = may_put; handed = λ p front n out. refl; counted = body_counted; given = given_where }
