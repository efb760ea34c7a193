use Rattle.std.proofs.Common.{◌<◌, ap, arith, length, ℕ, ◌+◌, ◌/◌, get_or, refl}
use Rattle.hpack_prim.proofs.EncodeLemmas.{words_end, length_words_more, word_is, word_long_is}
use Rattle.hpack_prim.proofs.encode.huff_len.Goals as goal

pub loop-byte-preserved : goal.loop-byte-preserved
loop-byte-preserved c =
    let b : ℕ = get_or c.args.bytes.now c.loop-byte.byte-index 0 in
    let f = c.type_inv.bytes c.loop-byte.byte-index in
    let less : b < 257 = omega (arith, f.fits) in
    let m = length_words_more c.args.bytes.now c.loop-byte.byte-index b c.loop-byte-test.true refl in
    let l = word_long_is b less in
    let w = (word_is b less).1 in
    record { whole = omega (arith, m, l, c.loop-byte.invariant.whole, c.len_of.ensures, c.from-total.ensures); bound = omega (arith, w, c.len_of.ensures, c.from-total.ensures, c.loop-byte.invariant.bound) }

pub returns : goal.returns
returns c = let e = ap length (words_end c.args.bytes.now c.loop-byte.byte-index c.loop-byte-test.false) in ap (λ (n : ℕ). (n + 7) / 8) (omega (arith, e, c.loop-byte.invariant.whole))
