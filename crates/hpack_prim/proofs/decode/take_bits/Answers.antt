use Rattle.std.proofs.Common.{refl, arith}
use Rattle.hpack_prim.proofs.Windows.{holds_at}
use Rattle.hpack_prim.proofs.decode.take_bits.Goals as goal

pub returns-clause-bits : goal.returns-clause-bits
returns-clause-bits c = holds_at c.args.bytes.now c.args.at _ _ c.requires.inside (λ i. (c.type_inv.bytes i).fits) (omega arith) refl
