use Rattle.std.proofs.Common.{◌∙◌, ℕ, ◌+◌, ◌≤◌, ◌-◌, Some, ap, sym, arith, drop, subst}
use Rattle.hpack_prim.specs.Huffman.{bits_of}
use Rattle.hpack_prim.specs.Decoding.{HoldsBits}
use Rattle.hpack_prim.proofs.BitLemmas.{length_bits}
use Rattle.hpack_prim.proofs.Windows.{symbol_there, symbol_missing, holds_front, holds_next}
use Rattle.hpack_prim.proofs.decode.next_symbol.Goals as goal

pub returns-then-next-bytes-clause-symbol : goal.returns-then-next-bytes-clause-symbol
returns-then-next-bytes-clause-symbol c =
    let w = holds_front c.args.bytes.now c.args.at _ _ c.front_of.result c.enough_bits-taken.ensures.bits c.enough_bits-taken.ensures.many c.front_of.ensures in
    symbol_missing c.args.bytes.now c.args.at c.front_of.result c.first_code-len.result.0 c.first_code-len.result.1 w c.first_code-len.ensures c.requires.inside (omega (arith, c.if-next-bytes.true, c.from.ensures))

pub returns-clause-symbol : goal.returns-clause-symbol
returns-clause-symbol c =
    let w = holds_front c.args.bytes.now c.args.at _ _ c.front_of.result c.enough_bits-taken.ensures.bits c.enough_bits-taken.ensures.many c.front_of.ensures in
    symbol_there c.args.bytes.now c.args.at c.front_of.result c.first_code-len.result.0 c.first_code-len.result.1 w c.first_code-len.ensures (omega (arith, c.if-next-bytes.false, c.from.ensures))
    ∙ ap (λ (k : ℕ). Some (c.first_code-len.result.1, drop (c.args.at + k) (bits_of c.args.bytes.now))) (sym c.from.ensures)

pub overflow_sub-left : goal.overflow_sub-left
overflow_sub-left c = omega (arith, c.first_code-len.ensures.fits, length_bits 30 c.front_of.result, c.enough_bits-taken.ensures.many)

pub returns-clause-bits : goal.returns-clause-bits
returns-clause-bits c =
    let few : c.first_code-len.result.0 ≤ c.enough_bits-taken.result.held = omega (arith, c.first_code-len.ensures.fits, length_bits 30 c.front_of.result, c.enough_bits-taken.ensures.many) in
    subst (λ (k : ℕ). HoldsBits c.args.bytes.now (c.args.at + k) c.enough_bits-taken.result.number (c.enough_bits-taken.result.held - c.first_code-len.result.0)) (sym c.from.ensures)
    (holds_next c.args.bytes.now c.args.at c.enough_bits-taken.result.number c.enough_bits-taken.result.held c.first_code-len.result.0 c.enough_bits-taken.ensures.bits few (omega (arith, c.if-next-bytes.false, c.from.ensures)))
