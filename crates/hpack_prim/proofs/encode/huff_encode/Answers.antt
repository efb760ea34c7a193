use Rattle.std.proofs.Common.{◌≡◌, ◌∙◌, ◌+◌, ap, sym, arith, length, ℕ, get_or, refl}
use Rattle.hpack_prim.specs.Huffman.{words}
use Rattle.hpack_prim.specs.Encoding.{spelled}
use Rattle.hpack_prim.proofs.EncodeLemmas.{words_end, length_words_more, word_moves, padded, pad_more, drop_later, nothing_yet, no_words_left}
use Rattle.hpack_prim.proofs.encode.huff_encode.Goals as goal

pub loop-byte-init : goal.loop-byte-init
loop-byte-init c = record { whole = nothing_yet c.args.out.now _; counted = omega arith; pending = record { few = omega arith; fits = omega arith }; behind = refl; length = refl }

pub push_word-at-requires-clause-room : goal.push_word-at-requires-clause-room
push_word-at-requires-clause-room c =
    let m = length_words_more c.args.bytes.now c.loop-byte.byte-index (get_or c.args.bytes.now c.loop-byte.byte-index 0) c.loop-byte-test.true refl in
    omega (arith, m, c.loop-byte.invariant.counted, c.requires.room, c.loop-byte.invariant.length)

pub loop-byte-preserved : goal.loop-byte-preserved
loop-byte-preserved c =
    let b : ℕ = get_or c.args.bytes.now c.loop-byte.byte-index 0 in
    let m = length_words_more c.args.bytes.now c.loop-byte.byte-index b c.loop-byte-test.true refl in
    record {
      whole = word_moves c.args.bytes.now _ _ c.loop-byte.byte-index b (words c.args.bytes.now) c.loop-byte-test.true refl c.loop-byte.invariant.whole c.push_word-at.ensures.spelled;
      counted = omega (arith, m, c.push_word-at.ensures.counted, c.loop-byte.invariant.counted);
      pending = c.push_word-at.ensures.pending;
      behind = c.push_word-at.ensures.behind ∙ drop_later c.loop-byte.out c.args.out.now c.loop-byte.at.written c.push_word-at.result.written
          (omega (arith, c.push_word-at.ensures.counted, c.push_word-at.ensures.pending.few, c.loop-byte.invariant.pending.few)) c.loop-byte.invariant.behind;
      length = omega (arith, c.loop-byte.invariant.length, c.push_word-at.auto.out);
    }

pub loop-at-init : goal.loop-at-init
loop-at-init c =
    let e = ap length (words_end c.args.bytes.now c.loop-byte.byte-index c.loop-byte-test.false) in
    record {
      pads = 0;
      few = omega (arith, c.loop-byte.invariant.pending.few);
      whole = no_words_left c.args.bytes.now _ (words c.args.bytes.now) c.loop-byte.byte-index c.loop-byte-test.false c.loop-byte.invariant.whole;
      counted = omega (arith, e, c.loop-byte.invariant.counted);
      pending = c.loop-byte.invariant.pending;
      behind = c.loop-byte.invariant.behind;
      length = c.loop-byte.invariant.length;
    }

pub loop-at-preserved : goal.loop-at-preserved
loop-at-preserved c =
    let count = c.push_bit-at.ensures.counted in let few = c.loop-at.invariant.pending.few in let next = c.push_bit-at.ensures.pending.few in
    record {
      pads = c.loop-at.invariant.pads + 1;
      few = omega (arith, c.loop-at.invariant.few, c.loop-at-test.true);
      whole = pad_more _ _ (words c.args.bytes.now) c.loop-at.invariant.pads c.loop-at.invariant.whole c.push_bit-at.ensures.spelled;
      counted = omega (arith, c.loop-at.invariant.counted);
      pending = c.push_bit-at.ensures.pending;
      behind = c.push_bit-at.ensures.behind ∙ drop_later c.loop-at.out c.args.out.now c.loop-at.at.written c.push_bit-at.result.written (omega arith) c.loop-at.invariant.behind;
      length = omega (arith, c.loop-at.invariant.length, c.push_bit-at.auto.out);
    }

pub returns-clause-string : goal.returns-clause-string
returns-clause-string c =
    let h : c.loop-at.at.held ≡ 0 = omega arith in
    padded c.loop-at.out c.args.bytes.now c.loop-at.at.written c.loop-at.at.part c.loop-at.invariant.pads
    (ap (λ (k : ℕ). spelled c.loop-at.out c.loop-at.at.written k c.loop-at.at.part) (sym h) ∙ c.loop-at.invariant.whole) (omega (arith, c.loop-at.invariant.few)) (λ i. (c.type_inv.bytes i).fits)
