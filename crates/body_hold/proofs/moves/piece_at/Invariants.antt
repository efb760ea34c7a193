use Rattle.std.proofs.Common.{◌≡◌, take, drop}
use Rattle.body_hold.specs.Held.{total}
use Rattle.body_hold.proofs.moves.piece_at.Given as goal

-- the bytes behind the pieces before the i-th
abbrev pub invariant-pieces : goal.invariant-pieces
invariant-pieces l = l.rest ≡ drop (total (take l.i l.lengths)) l.bytes
