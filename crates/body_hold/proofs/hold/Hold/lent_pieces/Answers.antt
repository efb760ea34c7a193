use Rattle.std.proofs.Common.{rules}
use Rattle.body_hold.proofs.Cut.{cut_count}
use Rattle.body_hold.proofs.hold.Hold.lent_pieces.Goals as goal

pub returns : goal.returns
returns c = let e = cut_count c.self.inside.lengths.items c.self.inside.lent.bytes in search rules
