use Rattle.std.proofs.Common.{◌∙◌, ◌++◌, ◌<◌, ◌-◌, ap, sym, arith, take, List, ℕ, refl, append_assoc}
use Rattle.std.proofs.lemmas.Grind.{common_steps}
use Rattle.hpack_prim.specs.Huffman.{bits, bits_of, word}
use Rattle.hpack_prim.specs.Encoding.{code, len}
use Rattle.hpack_prim.proofs.Windows.{bits_mod}
use Rattle.hpack_prim.proofs.EncodeLemmas.{small_part, word_is, word_long_is, word_joins, byte_written, behind_byte}
use Rattle.hpack_prim.proofs.encode.push_word.Goals as goal

pub overflow_add-held : goal.overflow_add-held
overflow_add-held c = let w = word_is c.args.symbol (omega arith) in omega (arith, c.requires.pending.few, w.1, c.len_of-len.ensures)

pub joined-number-requires-clause-part : goal.joined-number-requires-clause-part
joined-number-requires-clause-part c = small_part c.args.at.held c.args.at.part c.requires.pending

pub joined-number-requires-clause-len : goal.joined-number-requires-clause-len
joined-number-requires-clause-len c = let w = word_is c.args.symbol (omega arith) in omega (arith, w.1, c.len_of-len.ensures)

pub joined-number-requires-clause-code : goal.joined-number-requires-clause-code
joined-number-requires-clause-code c = let w = word_is c.args.symbol (omega arith) in rw (c.code_of.ensures, c.len_of-len.ensures) w.2

pub loop-held-init : goal.loop-held-init
loop-held-init c =
    let less : c.args.symbol < 257 = omega arith in
    let w = word_is c.args.symbol less in let l = word_long_is c.args.symbol less in
    record {
      whole =
          ap (λ (v : List ℕ). bits_of (take c.args.at.written c.args.out.now) ++ v)
          (rw (c.joined-number.ensures, c.code_of.ensures, c.len_of-len.ensures) (word_joins c.args.at.held c.args.at.part (len c.args.symbol) (code c.args.symbol) w.2 ∙ ap (λ (v : List ℕ). bits c.args.at.held c.args.at.part ++ v) (sym w.0)))
          ∙ sym (append_assoc (bits_of (take c.args.at.written c.args.out.now)) (bits c.args.at.held c.args.at.part) (word c.args.symbol));
      counted = omega (arith, l, c.len_of-len.ensures);
      behind = refl;
      more = omega arith;
      length = refl;
    }

pub loop-held-preserved : goal.loop-held-preserved
loop-held-preserved c =
    let i = c.loop-held.invariant in
    record {
      whole = byte_written c.loop-held.out c.loop-held.written c.loop-held.held (c.loop-held.held - 8) c.joined-number.result _ (omega (arith, c.loop-held-test.true)) (omega (arith, i.counted, i.length, c.requires.room, c.loop-held-test.true)) i.whole;
      counted = omega (arith, i.counted, c.loop-held-test.true);
      behind = behind_byte c.loop-held.out c.args.out.now c.loop-held.written _ i.behind;
      more = omega (arith, i.more);
      length = grind (arith, common_steps, i.length);
    }

pub returns-clause-spelled : goal.returns-clause-spelled
returns-clause-spelled c =
    ap (λ (v : List ℕ). bits_of (take c.loop-held.written c.loop-held.out) ++ v) (ap (bits c.loop-held.held) c.low_bits.ensures ∙ bits_mod c.loop-held.held c.joined-number.result) ∙ c.loop-held.invariant.whole

pub overflow_shr-out : goal.overflow_shr-out
overflow_shr-out c =
    let less : c.args.symbol < 257 = omega arith in
    let w = word_is c.args.symbol less in let l = word_long_is c.args.symbol less in
    omega (arith, w.1, l, c.loop-held.invariant.counted, c.loop-held.invariant.more, c.requires.pending.few)
