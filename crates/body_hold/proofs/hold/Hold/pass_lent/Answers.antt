use Rattle.std.proofs.Common.{rules}
use Rattle.body_hold.proofs.Cut.{joined_cut}
use Rattle.body_hold.proofs.hold.Hold.pass_lent.Goals as goal

pub append-requires : goal.append-requires
append-requires c = let e = joined_cut c.self.inside.lengths.items c.self.inside.lent.bytes (search rules) in search rules

pub returns : goal.returns
returns c = let e = joined_cut c.self.inside.lengths.items c.self.inside.lent.bytes (search rules) in search rules
