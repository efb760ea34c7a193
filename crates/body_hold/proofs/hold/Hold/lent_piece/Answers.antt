use Rattle.std.proofs.Common.{rules}
use Rattle.body_hold.proofs.Cut.{cut_count}
use Rattle.body_hold.proofs.hold.Hold.lent_piece.Goals as goal

pub piece_at-requires-clause-known : goal.piece_at-requires-clause-known
piece_at-requires-clause-known c = let e = cut_count c.self.inside.lengths.items c.self.inside.lent.bytes in search rules
