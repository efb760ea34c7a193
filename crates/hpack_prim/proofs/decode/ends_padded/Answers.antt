use Rattle.std.proofs.Common.{◌∙◌, ℕ, List, ap, sym, arith, drop, nat_eq, Bool, length-drop, refl}
use Rattle.std.specs.List.{list_all}
use Rattle.hpack_prim.specs.Huffman.{bits_of}
use Rattle.hpack_prim.proofs.BitLemmas.{too_long, all_one, length_bits_of}
use Rattle.hpack_prim.proofs.decode.ends_padded.Goals as goal

abbrev ones : List ℕ → Bool
ones bs = list_all (λ b. nat_eq b 1) bs

pub returns-then-bytes-at-ge8 : goal.returns-then-bytes-at-ge8
returns-then-bytes-at-ge8 c = sym (too_long (drop c.args.at (bits_of c.args.bytes.now)) (omega (arith, length-drop c.args.at (bits_of c.args.bytes.now), length_bits_of c.args.bytes.now)))

pub returns-then-bit-eq0 : goal.returns-then-bit-eq0
returns-then-bit-eq0 c =
    sym (all_one (drop c.args.at (bits_of c.args.bytes.now)) (omega (arith, length-drop c.args.at (bits_of c.args.bytes.now), length_bits_of c.args.bytes.now)) ∙ sym c.loop-bit.invariant.whole ∙ ap ones c.in-Some.ensures.bit ∙ rw c.if-bit-eq0.true refl)

pub returns : goal.returns
returns c =
    sym (all_one (drop c.args.at (bits_of c.args.bytes.now)) (omega (arith, length-drop c.args.at (bits_of c.args.bytes.now), length_bits_of c.args.bytes.now)) ∙ sym c.loop-bit.invariant.whole ∙ ap ones c.in_default.ensures.bit)
