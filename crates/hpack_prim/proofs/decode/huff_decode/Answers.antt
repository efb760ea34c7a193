use Rattle.std.proofs.Common.{◌∙◌, ℕ, ◌<◌, ap, sym, arith, drop, length, refl, Some}
use Rattle.hpack_prim.specs.Huffman.{bits_of}
use Rattle.hpack_prim.proofs.Windows.{holds_none}
use Rattle.hpack_prim.proofs.Decodings.{starts, lies, goes_on, at_eos, at_end, at_rest}
use Rattle.std.proofs.lemmas.Grind.{common_steps}
use Rattle.hpack_prim.proofs.decode.huff_decode.Goals as goal

pub loop-symbol-init : goal.loop-symbol-init
loop-symbol-init c = record { decoding = starts c.args.bytes.now c.args.out.now; taken = holds_none c.args.bytes.now; most = omega arith; length = refl }

pub returns-then-symbol-eq256-clause-exact : goal.returns-then-symbol-eq256-clause-exact
returns-then-symbol-eq256-clause-exact c = at_eos c.args.bytes.now c.loop-symbol.out c.loop-symbol.written c.loop-symbol.at c.in-Some.next c.loop-symbol.invariant.decoding (c.in-Some.ensures.symbol ∙ ap (λ (s : ℕ). Some (s, drop c.in-Some.next (bits_of c.args.bytes.now))) c.if-symbol-eq256.true)

pub overflow_cast-out : goal.overflow_cast-out
overflow_cast-out c =
    let l = lies c.args.bytes.now c.loop-symbol.at c.in-Some.symbol c.in-Some.next c.loop-symbol.invariant.decoding.inside c.in-Some.ensures.inside c.in-Some.ensures.symbol in
    omega (arith, l.small, c.if-symbol-eq256.false)

pub bounds-out-written : goal.bounds-out-written
bounds-out-written c =
    let l = lies c.args.bytes.now c.loop-symbol.at c.in-Some.symbol c.in-Some.next c.loop-symbol.invariant.decoding.inside c.in-Some.ensures.inside c.in-Some.ensures.symbol in
    omega (arith, l.long, c.loop-symbol.invariant.decoding.room, c.in-Some.ensures.inside)

pub loop-symbol-smaller : goal.loop-symbol-smaller
loop-symbol-smaller c =
    let l = lies c.args.bytes.now c.loop-symbol.at c.in-Some.symbol c.in-Some.next c.loop-symbol.invariant.decoding.inside c.in-Some.ensures.inside c.in-Some.ensures.symbol in
    omega (arith, l.long, c.in-Some.ensures.inside)

pub loop-symbol-preserved : goal.loop-symbol-preserved
loop-symbol-preserved c =
    let l = lies c.args.bytes.now c.loop-symbol.at c.in-Some.symbol c.in-Some.next c.loop-symbol.invariant.decoding.inside c.in-Some.ensures.inside c.in-Some.ensures.symbol in
    let room : c.loop-symbol.written < length c.loop-symbol.out = omega (arith, l.long, c.loop-symbol.invariant.decoding.room, c.in-Some.ensures.inside) in
    record {
      decoding = goes_on c.args.bytes.now c.loop-symbol.out c.loop-symbol.written c.loop-symbol.at c.in-Some.symbol c.in-Some.next c.loop-symbol.invariant.decoding c.in-Some.ensures.inside c.in-Some.ensures.symbol c.if-symbol-eq256.false room;
      taken = c.in-Some.ensures.bits;
      most = c.in-Some.ensures.most;
      length = grind (arith, common_steps);
    }

pub returns-then-ends_padded-clause-exact : goal.returns-then-ends_padded-clause-exact
returns-then-ends_padded-clause-exact c = at_end c.args.bytes.now c.loop-symbol.out c.loop-symbol.written c.loop-symbol.at c.loop-symbol.invariant.decoding c.in_default.ensures.symbol (sym c.if-ends_padded.ensures)

pub returns-else-ends_padded-clause-exact : goal.returns-else-ends_padded-clause-exact
returns-else-ends_padded-clause-exact c = at_rest c.args.bytes.now c.loop-symbol.out c.loop-symbol.written c.loop-symbol.at c.loop-symbol.invariant.decoding c.in_default.ensures.symbol (sym c.if-ends_padded.ensures)
