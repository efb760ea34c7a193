-- The tables of codes by their first bits, checked entry by entry.
use Rattle.std.proofs.Common.{◌≡◌, ℕ, zero, suc, ◌+◌, ◌<◌, ◌≤◌, Bool, true, false, ◌&&◌, nat_eq, nat_le, List, [], ◌∷◌, length, drop, get_or, refl, ap, sym, ◌∙◌, arith, Option, Some, None, length-append}
use borrow.Author.Tests.{leb-true, eqb-true}
use Rattle.std.proofs.lemmas.List.{drop_at}
use Rattle.hpack_prim.specs.declared.decode_table.TheConstants.{LENGTHS_8, SYMBOLS_8, LENGTHS_15, SYMBOLS_15, LENGTHS_22, SYMBOLS_22, LENGTHS_24, SYMBOLS_24, LENGTHS_28, SYMBOLS_28, LENGTHS_30, SYMBOLS_30}
use Rattle.hpack_prim.specs.Huffman.{bits, word, walk, walk_of, counts, in_order, symbol, symbol_at}
use Rattle.hpack_prim.specs.Decoding.{entry_8, entry_15, entry_22, entry_24, entry_28, entry_30, Begins}
use Rattle.hpack_prim.proofs.Codes.{both}
use Rattle.hpack_prim.proofs.Walks.{IsBits, symbol_found}
use Rattle.hpack_prim.proofs.BitLemmas.{length_bits, IsBits-bits}

-- What an entry says of so many bits. Only from an end on they may have no whole code.
abbrev agrees : Option (ℕ × List ℕ) → ℕ → ℕ → ℕ → ℕ → ℕ → Bool
agrees None size end front len symbol = nat_eq len 0 && nat_le end front
agrees (Some (s, rest)) size end front len symbol = nat_le 5 len && (nat_eq (length rest + len) size && nat_eq s symbol)

agree : ℕ → ℕ → ℕ → List ℕ → List ℕ → Bool
agree size end front [] ss = true
agree size end front (l ∷ ls) [] = false
agree size end front (l ∷ ls) (s ∷ ss) = agrees (symbol_at (bits size front)) size end front l s && agree size end (front + 1) ls ss

checked_8 : agree 8 0xfe 0x0 LENGTHS_8 SYMBOLS_8 ≡ true
unfolding agree bits walk walk_of counts in_order symbol symbol_at
checked_8 = refl

checked_15 : agree 15 0x7fff 0x7f00 LENGTHS_15 SYMBOLS_15 ≡ true
unfolding agree bits walk walk_of counts in_order symbol symbol_at
checked_15 = refl

checked_22 : agree 22 0x3fffec 0x3fff80 LENGTHS_22 SYMBOLS_22 ≡ true
unfolding agree bits walk walk_of counts in_order symbol symbol_at
checked_22 = refl

checked_24 : agree 24 0xfffff6 0xffffb0 LENGTHS_24 SYMBOLS_24 ≡ true
unfolding agree bits walk walk_of counts in_order symbol symbol_at
checked_24 = refl

checked_28 : agree 28 0xfffffff 0xfffff60 LENGTHS_28 SYMBOLS_28 ≡ true
unfolding agree bits walk walk_of counts in_order symbol symbol_at
checked_28 = refl

checked_30 : agree 30 0x40000000 0x3ffffffc LENGTHS_30 SYMBOLS_30 ≡ true
unfolding agree bits walk walk_of counts in_order symbol symbol_at
checked_30 = refl

agree_at : (size end front : ℕ) (ls ss : List ℕ) (i : ℕ) → agree size end front ls ss ≡ true → i < length ls → agrees (symbol_at (bits size (front + i))) size end (front + i) (get_or ls i 0) (get_or ss i 0) ≡ true
unfolding agree
agree_at size end front [] ss i h less = absurd (omega arith)
agree_at size end front (l ∷ ls) [] i h less = (cc)
agree_at size end front (l ∷ ls) (s ∷ ss) zero h less =
    let z : front + 0 ≡ front = omega arith in
    rw z (both _ _ h).0
agree_at size end front (l ∷ ls) (s ∷ ss) (suc i) h less =
    let z : front + suc i ≡ front + 1 + i = omega arith in
    rw z (agree_at size end (front + 1) ls ss i (both _ _ h).1 (omega arith))

-- what an entry says
pub record Entry (bs : List ℕ) (end front : ℕ) (e : ℕ × ℕ) : Type 0 where
  pub begins : 0 < e.0 → Begins bs e.0 e.1
  pub ends : e.0 ≡ 0 → end ≤ front

entry_of : (bs : List ℕ) (size end front len symbol : ℕ) (w : Option (ℕ × List ℕ)) → IsBits bs → length bs ≡ size → symbol_at bs ≡ w → agrees w size end front len symbol ≡ true → Entry bs end front (len, symbol)
entry_of bs size end front len symbol None x l is h =
    let p = both _ _ h in let z = eqb-true len 0 p.0 in
    record { begins = λ some. absurd (omega arith); ends = λ _. leb-true end front p.1 }
entry_of bs size end front len symbol (Some (s, rest)) x l is h =
    let p = both _ _ h in let q = both _ _ p.1 in
    let five = leb-true 5 len p.0 in let sum = eqb-true (length rest + len) size q.0 in let same = eqb-true s symbol q.1 in
    let f = symbol_found bs s rest x is in
    let k : length bs ≡ length (word s) + length rest = ap length f.word_is ∙ length-append (word s) rest in
    let d : rest ≡ drop len bs = sym (ap (drop len) f.word_is ∙ drop_at (word s) rest len (omega arith)) in
    record {
      begins = λ some. record { some = five; fits = omega arith; is = is ∙ ap (λ (v : List ℕ). Some (s, v)) d ∙ ap (λ (t : ℕ). Some (t, drop len bs)) same };
      ends = λ none. absurd (omega arith);
    }

entry_at : (size end front : ℕ) (ls ss : List ℕ) (i : ℕ) → agree size end front ls ss ≡ true → i < length ls → Entry (bits size (front + i)) end (front + i) (get_or ls i 0, get_or ss i 0)
entry_at size end front ls ss i h less = entry_of (bits size (front + i)) size end (front + i) (get_or ls i 0) (get_or ss i 0) (symbol_at (bits size (front + i))) (IsBits-bits size (front + i)) (length_bits size (front + i)) refl (agree_at size end front ls ss i h less)

pub code_8_is : (front i : ℕ) → front ≡ 0x0 + i → i < 256 → Entry (bits 8 front) 0xfe front (entry_8 i)
unfolding entry_8
code_8_is front i e less = rw e (entry_at 8 0xfe 0x0 LENGTHS_8 SYMBOLS_8 i checked_8 less)

pub code_15_is : (front i : ℕ) → front ≡ 0x7f00 + i → i < 256 → Entry (bits 15 front) 0x7fff front (entry_15 i)
unfolding entry_15
code_15_is front i e less = rw e (entry_at 15 0x7fff 0x7f00 LENGTHS_15 SYMBOLS_15 i checked_15 less)

pub code_22_is : (front i : ℕ) → front ≡ 0x3fff80 + i → i < 128 → Entry (bits 22 front) 0x3fffec front (entry_22 i)
unfolding entry_22
code_22_is front i e less = rw e (entry_at 22 0x3fffec 0x3fff80 LENGTHS_22 SYMBOLS_22 i checked_22 less)

pub code_24_is : (front i : ℕ) → front ≡ 0xffffb0 + i → i < 80 → Entry (bits 24 front) 0xfffff6 front (entry_24 i)
unfolding entry_24
code_24_is front i e less = rw e (entry_at 24 0xfffff6 0xffffb0 LENGTHS_24 SYMBOLS_24 i checked_24 less)

pub code_28_is : (front i : ℕ) → front ≡ 0xfffff60 + i → i < 160 → Entry (bits 28 front) 0xfffffff front (entry_28 i)
unfolding entry_28
code_28_is front i e less = rw e (entry_at 28 0xfffffff 0xfffff60 LENGTHS_28 SYMBOLS_28 i checked_28 less)

pub code_30_is : (front i : ℕ) → front ≡ 0x3ffffffc + i → i < 4 → Entry (bits 30 front) 0x40000000 front (entry_30 i)
unfolding entry_30
code_30_is front i e less = rw e (entry_at 30 0x40000000 0x3ffffffc LENGTHS_30 SYMBOLS_30 i checked_30 less)
