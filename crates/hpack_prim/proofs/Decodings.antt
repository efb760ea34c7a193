-- The loop over the symbols of a Huffman string.
use Rattle.std.proofs.Common.{◌≡◌, ℕ, suc, ◌+◌, ◌-◌, ◌*◌, ◌/◌, ◌<◌, ◌≤◌, ◌≢◌, Bool, true, false, nat_eq, List, [], ◌∷◌, ◌++◌, length, take, drop, set, refl, ap, ap₂, sym, ◌∙◌, arith, append_assoc, append-nil, length-append, length-drop, Option, Some, None, Result, Ok, Err}
use Rattle.std.proofs.lemmas.Bool.{ne_eqb}
use Rattle.std.proofs.lemmas.List.{take_more_set}
use Rattle.hpack_prim.specs.declared.fault.PrimFault.{PrimFault}
use Rattle.hpack_prim.specs.declared.fault.PrimFault.TheVariants.{Eos, Padding}
use Rattle.hpack_prim.specs.Huffman.{bits_of, word, symbol_at, is_padding, joined, from_symbol, symbols_in, huff_of}
use Rattle.hpack_prim.proofs.Codes.{word_long}
use Rattle.hpack_prim.proofs.Walks.{symbol_found}
use Rattle.hpack_prim.proofs.BitLemmas.{IsBits-bits_of, IsBits-drop, length_bits_of}

-- a symbol's word lies between two places
pub record Lies (bytes : List ℕ) (at s next : ℕ) : Type 0 where
  pub small : s < 257
  pub long : at + 5 ≤ next
  pub length : next ≡ at + (length (drop at (bits_of bytes)) - length (drop next (bits_of bytes)))

pub lies : (bytes : List ℕ) (at s next : ℕ) → at ≤ 8 * length bytes → next ≤ 8 * length bytes → symbol_at (drop at (bits_of bytes)) ≡ Some (s, drop next (bits_of bytes)) → Lies bytes at s next
lies bytes at s next here there e =
    let f = symbol_found (drop at (bits_of bytes)) s (drop next (bits_of bytes)) (IsBits-drop at _ (IsBits-bits_of bytes)) e in
    let l : length (drop at (bits_of bytes)) ≡ length (word s ++ drop next (bits_of bytes)) = ap length f.word_is in
    let m = length-append (word s) (drop next (bits_of bytes)) in
    let a = length-drop at (bits_of bytes) in let b = length-drop next (bits_of bytes) in
    let w = word_long s f.symbol in
    let n = length_bits_of bytes in
    record { small = f.symbol; long = omega (arith, w.long); length = omega (arith, w.long) }

-- what the loop keeps
pub record Decoding (bytes out : List ℕ) (written at : ℕ) : Type 0 where
  pub whole : joined (take written out) (symbols_in (8 * length bytes + 1 - written) at (drop at (bits_of bytes))) ≡ huff_of bytes
  pub inside : at ≤ 8 * length bytes
  pub room : 5 * written ≤ at

pub joined_nil : (x : Result (List ℕ) PrimFault) → joined [] x ≡ x
joined_nil (Ok ss) = refl
joined_nil (Err e) = refl

pub joined_twice : (f g : List ℕ) (x : Result (List ℕ) PrimFault) → joined (f ++ g) x ≡ joined f (joined g x)
joined_twice f g (Ok ss) = ap Ok (append_assoc f g ss)
joined_twice f g (Err e) = refl

pub starts : (bytes out : List ℕ) → Decoding bytes out 0 0
unfolding huff_of
starts bytes out =
    let e : length (bits_of bytes) + 1 ≡ 8 * length bytes + 1 - 0 = omega (arith, length_bits_of bytes) in
    record { whole = joined_nil _ ∙ ap (λ (n : ℕ). symbols_in n 0 (bits_of bytes)) (sym e); inside = omega arith; room = omega arith }

symbols_are : (most at : ℕ) (bs : List ℕ) (w : Option (ℕ × List ℕ)) (p : Bool) → symbol_at bs ≡ w → is_padding bs ≡ p → symbols_in (suc most) at bs ≡ from_symbol w p at (length bs) (λ next rest. symbols_in most next rest)
unfolding symbols_in
symbols_are most at bs w p e f = ap₂ (λ (v : Option (ℕ × List ℕ)) (q : Bool). from_symbol v q at (length bs) (λ next rest. symbols_in most next rest)) e f

pub symbols_eos : (most at : ℕ) (bs r : List ℕ) → symbol_at bs ≡ Some (256, r) → symbols_in (suc most) at bs ≡ Err (Eos (at / 8))
symbols_eos most at bs r e = symbols_are most at bs _ _ e refl

pub symbols_none : (most at : ℕ) (bs : List ℕ) → symbol_at bs ≡ None → is_padding bs ≡ true → symbols_in (suc most) at bs ≡ Ok []
symbols_none most at bs e f = symbols_are most at bs _ _ e f

pub symbols_rest : (most at : ℕ) (bs : List ℕ) → symbol_at bs ≡ None → is_padding bs ≡ false → symbols_in (suc most) at bs ≡ Err (Padding (at / 8))
symbols_rest most at bs e f = symbols_are most at bs _ _ e f

pub symbols_more : (most at s next : ℕ) (bs r : List ℕ) → symbol_at bs ≡ Some (s, r) → nat_eq s 256 ≡ false → next ≡ at + (length bs - length r) → symbols_in (suc most) at bs ≡ joined (s ∷ []) (symbols_in most next r)
symbols_more most at s next bs r e f n = symbols_are most at bs _ _ e refl ∙ rw (f, n) refl

-- a symbol more
pub goes_on : (bytes out : List ℕ) (written at s next : ℕ) → Decoding bytes out written at → next ≤ 8 * length bytes → symbol_at (drop at (bits_of bytes)) ≡ Some (s, drop next (bits_of bytes))
    → s ≢ 256 → written < length out → Decoding bytes (set out written s) (written + 1) next
goes_on bytes out written at s next d there e ne room =
    let l = lies bytes at s next d.inside there e in
    let n : 8 * length bytes + 1 - written ≡ suc (8 * length bytes + 1 - (written + 1)) = omega (arith, d.room, d.inside) in
    record {
      whole = rw (take_more_set out written s room) (joined_twice (take written out) (s ∷ []) (symbols_in (8 * length bytes + 1 - (written + 1)) next (drop next (bits_of bytes)))
          ∙ sym (ap (joined (take written out)) (ap (λ (m : ℕ). symbols_in m at (drop at (bits_of bytes))) n ∙ symbols_more _ at s next _ _ e (ne_eqb s 256 ne) l.length)) ∙ d.whole);
      inside = there;
      room = omega (arith, l.long, d.room);
    }

last : (bytes out : List ℕ) (written at : ℕ) (x : Result (List ℕ) PrimFault) → Decoding bytes out written at → ((most : ℕ) → symbols_in (suc most) at (drop at (bits_of bytes)) ≡ x) → huff_of bytes ≡ joined (take written out) x
last bytes out written at x d e =
    let n : 8 * length bytes + 1 - written ≡ suc (8 * length bytes - written) = omega (arith, d.room, d.inside) in
    sym d.whole ∙ ap (joined (take written out)) (ap (λ (m : ℕ). symbols_in m at (drop at (bits_of bytes))) n ∙ e (8 * length bytes - written))

pub at_eos : (bytes out : List ℕ) (written at next : ℕ) → Decoding bytes out written at → symbol_at (drop at (bits_of bytes)) ≡ Some (256, drop next (bits_of bytes)) → huff_of bytes ≡ Err (Eos (at / 8))
at_eos bytes out written at next d e = last bytes out written at _ d (λ most. symbols_eos most at _ _ e)

pub at_end : (bytes out : List ℕ) (written at : ℕ) → Decoding bytes out written at → symbol_at (drop at (bits_of bytes)) ≡ None → is_padding (drop at (bits_of bytes)) ≡ true → huff_of bytes ≡ Ok (take written out)
at_end bytes out written at d e f = last bytes out written at _ d (λ most. symbols_none most at _ e f) ∙ ap Ok (append-nil (take written out))

pub at_rest : (bytes out : List ℕ) (written at : ℕ) → Decoding bytes out written at → symbol_at (drop at (bits_of bytes)) ≡ None → is_padding (drop at (bits_of bytes)) ≡ false → huff_of bytes ≡ Err (Padding (at / 8))
at_rest bytes out written at d e f = last bytes out written at _ d (λ most. symbols_rest most at _ e f)
