-- What the reading of a Huffman string says of its bits.
use Rattle.std.proofs.Common.{◌≡◌, ℕ, zero, suc, ◌+◌, ◌-◌, ◌*◌, ◌/◌, ◌<◌, ◌≤◌, Bool, true, false, nat_eq, List, [], ◌∷◌, ◌++◌, length, replicate, refl, ap, ap₂, sym, ◌∙◌, arith, append_assoc, append-nil, length-append, Option, Some, None, Result, Ok, Err, ◌&&◌, subst}
use Rattle.std.specs.List.{AllByRecursion, list_all}
use borrow.Author.Tests.{ltb-true, eqb-true, eqb-false}
use Rattle.std.proofs.lemmas.Bool.{ne_eqb}
use Rattle.hpack_prim.specs.declared.fault.PrimFault.{PrimFault}
use Rattle.hpack_prim.specs.declared.fault.PrimFault.TheVariants.{Eos, Padding}
use Rattle.hpack_prim.specs.Huffman.{bits_of, word, words, walk, walk_of, counts, symbol_at, is_padding, joined, symbols_in, huff_of, IsHuff, HasEos, HasRest}
use Rattle.hpack_prim.proofs.Codes.{word_long, both, below}
use Rattle.hpack_prim.proofs.Walks.{IsBits, symbol_found, walk_finds, none_there}
use Rattle.hpack_prim.proofs.BitLemmas.{IsBits-bits_of}
use Rattle.hpack_prim.proofs.Decodings.{symbols_eos, symbols_none, symbols_rest, symbols_more, joined_nil, joined_twice}
use Rattle.hpack_prim.proofs.EncodeLemmas.{words-cons, words-nil}

IsBits-right : (xs ys : List ℕ) → IsBits (xs ++ ys) → IsBits ys
IsBits-right [] ys a = a
IsBits-right (x ∷ xs) ys a = IsBits-right xs ys a.1

-- words of symbols, and what is behind them
pub record Split (bs ss rest : List ℕ) : Type 0 where
  pub whole : bs ≡ words ss ++ rest
  pub each : AllByRecursion (λ s. s < 256) ss

-- the reading of bits, told by the grammar
abbrev pub Tells : ℕ → List ℕ → Result (List ℕ) PrimFault → Type 0
Tells at bs (Ok ss) = (rest : List ℕ) × Split bs ss rest × (is_padding rest ≡ true)
Tells at bs (Err (Eos p)) = (ss rest : List ℕ) × Split bs ss (word 256 ++ rest) × (p ≡ (at + length (words ss)) / 8)
Tells at bs (Err (Padding p)) = (ss rest : List ℕ) × Split bs ss rest × (symbol_at rest ≡ None) × (is_padding rest ≡ false) × (p ≡ (at + length (words ss)) / 8)
Tells at bs (Err e) = ⊥

split_more : (bs ss rest more : List ℕ) (s : ℕ) → bs ≡ word s ++ more → s < 256 → Split more ss rest → Split bs (s ∷ ss) rest
split_more bs ss rest more s e small t = record { whole = e ∙ ap (λ (v : List ℕ). word s ++ v) t.whole ∙ sym (append_assoc (word s) (words ss) rest) ∙ ap (λ (v : List ℕ). v ++ rest) (sym (words-cons s ss)); each = (small, t.each) }

length_more : (s at next p : ℕ) (ss : List ℕ) → next ≡ at + length (word s) → p ≡ (next + length (words ss)) / 8 → p ≡ (at + length (words (s ∷ ss))) / 8
length_more s at next p ss n e = let l : length (words (s ∷ ss)) ≡ length (word s) + length (words ss) = ap length (words-cons s ss) ∙ length-append (word s) (words ss) in
    e ∙ ap (λ (k : ℕ). k / 8) (omega arith)

tells_more : (at next s : ℕ) (bs more : List ℕ) (x : Result (List ℕ) PrimFault) → bs ≡ word s ++ more → s < 256 → next ≡ at + length (word s) → Tells next more x → Tells at bs (joined (s ∷ []) x)
tells_more at next s bs more (Ok ss) e small n t = (t.0, split_more bs ss t.0 more s e small t.1, t.2)
tells_more at next s bs more (Err (Eos p)) e small n t = (s ∷ t.0, t.1, split_more bs t.0 (word 256 ++ t.1) more s e small t.2, length_more s at next p t.0 n t.3)
tells_more at next s bs more (Err (Padding p)) e small n t = (s ∷ t.0, t.1, split_more bs t.0 t.1 more s e small t.2, t.3, t.4, length_more s at next p t.0 n t.5)
tells_more at next s bs more (Err _) e small n t = absurd t

start : (bs : List ℕ) → Split bs [] bs
start bs = record { whole = ap (λ (v : List ℕ). v ++ bs) (sym words-nil); each = tt }

start_at : (at : ℕ) → at / 8 ≡ (at + length (words [])) / 8
start_at at = ap (λ (k : ℕ). k / 8) (let e : length (words []) ≡ 0 = ap length words-nil in omega arith)

-- all readings of fewer bits tell what they should
abbrev Sound : ℕ → Type 0
Sound most = (at : ℕ) (bs : List ℕ) → IsBits bs → length bs < most → Tells at bs (symbols_in most at bs)

sound_none : (most at : ℕ) (bs : List ℕ) (p : Bool) → symbol_at bs ≡ None → is_padding bs ≡ p → Tells at bs (symbols_in (suc most) at bs)
sound_none most at bs true e f = subst (Tells at bs) (sym (symbols_none most at bs e f)) (bs, start bs, f)
sound_none most at bs false e f = subst (Tells at bs) (sym (symbols_rest most at bs e f)) ([], bs, start bs, e, f, start_at at)

sound_some : (most at s : ℕ) (bs more : List ℕ) (b : Bool) → Sound most → IsBits bs → length bs < suc most → symbol_at bs ≡ Some (s, more) → nat_eq s 256 ≡ b → Tells at bs (symbols_in (suc most) at bs)
sound_some most at s bs more true i x less e g =
    let f = symbol_found bs s more x e in
    let q : s ≡ 256 = eqb-true s 256 g in
    subst (Tells at bs) (sym (symbols_eos most at bs more (e ∙ ap (λ (k : ℕ). Some (k, more)) q)))
    ([], more, record { whole = f.word_is ∙ ap (λ (k : ℕ). word k ++ more) q ∙ ap (λ (v : List ℕ). v ++ (word 256 ++ more)) (sym words-nil); each = tt }, start_at at)
sound_some most at s bs more false i x less e g =
    let f = symbol_found bs s more x e in
    let l : length bs ≡ length (word s) + length more = ap length f.word_is ∙ length-append (word s) more in
    let q = eqb-false s 256 g in let w = word_long s f.symbol in
    let next : ℕ = at + (length bs - length more) in
    let n : next ≡ at + length (word s) = omega (arith, l) in
    let y : IsBits more = IsBits-right (word s) more (subst IsBits f.word_is x) in
    let z : length more < most = omega (arith, l, w.long, less) in
    let small : s < 256 = omega (arith, f.symbol, q) in
    subst (Tells at bs) (sym (symbols_more most at s next bs more e g refl)) (tells_more at next s bs more (symbols_in most next more) f.word_is small n (i next more y z))

sound_at : (most at : ℕ) (bs : List ℕ) (w : Option (ℕ × List ℕ)) → Sound most → IsBits bs → length bs < suc most → symbol_at bs ≡ w → Tells at bs (symbols_in (suc most) at bs)
sound_at most at bs None i x less e = sound_none most at bs (is_padding bs) e refl
sound_at most at bs (Some (s, more)) i x less e = sound_some most at s bs more (nat_eq s 256) i x less e refl

sound : (most : ℕ) → Sound most
sound zero at bs x less = absurd (omega arith)
sound (suc most) at bs x less = sound_at most at bs (symbol_at bs) (sound most) x less refl

-- ---- what is spelled so is read so

-- behind words of symbols the reading goes on
goes_behind : (ss : List ℕ) (most at : ℕ) (rest : List ℕ) → AllByRecursion (λ s. s < 256) ss
    → symbols_in (length ss + most) at (words ss ++ rest) ≡ joined ss (symbols_in most (at + length (words ss)) rest)
goes_behind [] most at rest a =
    let n : 0 + most ≡ most = omega arith in
    let l : length (words []) ≡ 0 = ap length words-nil in
    let m : at + length (words []) ≡ at = omega arith in
    rw (n, m) (ap (λ (v : List ℕ). symbols_in most at (v ++ rest)) words-nil ∙ sym (joined_nil (symbols_in most at rest)))
goes_behind (s ∷ ss) most at rest a =
    let small : s < 256 = a.0 in
    let here : words (s ∷ ss) ++ rest ≡ word s ++ (words ss ++ rest) = ap (λ (v : List ℕ). v ++ rest) (words-cons s ss) ∙ append_assoc (word s) (words ss) rest in
    let n : suc (length ss) + most ≡ suc (length ss + most) = omega arith in
    let next : ℕ = at + length (word s) in
    let l : length (word s ++ (words ss ++ rest)) ≡ length (word s) + length (words ss ++ rest) = length-append (word s) (words ss ++ rest) in
    let k : next ≡ at + (length (word s ++ (words ss ++ rest)) - length (words ss ++ rest)) = omega arith in
    let j : length (words (s ∷ ss)) ≡ length (word s) + length (words ss) = ap length (words-cons s ss) ∙ length-append (word s) (words ss) in
    let m : next + length (words ss) ≡ at + length (words (s ∷ ss)) = omega arith in
    let one : symbols_in (suc (length ss + most)) at (word s ++ (words ss ++ rest)) ≡ joined (s ∷ []) (symbols_in (length ss + most) next (words ss ++ rest)) =
    symbols_more (length ss + most) at s next (word s ++ (words ss ++ rest)) (words ss ++ rest) (walk_finds _ s (words ss ++ rest) (omega arith) refl) (ne_eqb s 256 (λ (q : s ≡ 256). omega arith)) k in
    ap (λ (b : List ℕ). symbols_in (suc (length ss) + most) at b) here ∙ ap (λ (x : ℕ). symbols_in x at (word s ++ (words ss ++ rest))) n ∙ one
    ∙ ap (joined (s ∷ [])) (goes_behind ss most next rest a.1) ∙ sym (joined_twice (s ∷ []) ss (symbols_in most (next + length (words ss)) rest))
    ∙ ap (λ (x : ℕ). joined (s ∷ ss) (symbols_in most x rest)) m

-- ---- padding begins with no word

is_none : Option (ℕ × List ℕ) → Bool
is_none None = true
is_none (Some p) = false

none_from : (w : Option (ℕ × List ℕ)) → is_none w ≡ true → w ≡ None
unfolding is_none
none_from None e = refl
none_from (Some p) e = (cc)

pad_fits : ℕ → Bool
pad_fits n = is_none (symbol_at (replicate n 1))

pads_fit : ℕ → Bool
pads_fit zero = true
pads_fit (suc n) = pad_fits n && pads_fit n

pads_checked : pads_fit 8 ≡ true
unfolding pads_fit pad_fits is_none symbol_at walk_of walk counts
pads_checked = refl

pad_none : (n : ℕ) → n < 8 → symbol_at (replicate n 1) ≡ None
unfolding pads_fit pad_fits
pad_none n less = none_from _ (below pad_fits pads_fit refl (λ n. refl) 8 pads_checked n less)

ones : (bs : List ℕ) → list_all (λ b. nat_eq b 1) bs ≡ true → bs ≡ replicate (length bs) 1
ones [] h = refl
ones (b ∷ bs) h = let p = both _ _ h in ap₂ ◌∷◌ (eqb-true b 1 p.0) (ones bs p.1)

pub padding_none : (bs : List ℕ) → is_padding bs ≡ true → symbol_at bs ≡ None
unfolding is_padding
padding_none bs h = let p = both _ _ h in ap symbol_at (ones bs p.1) ∙ pad_none (length bs) (ltb-true (length bs) 8 p.0)

-- ---- the laws

-- so many symbols have at least so many bits
words_long : (ss : List ℕ) → AllByRecursion (λ s. s < 256) ss → 5 * length ss ≤ length (words ss)
words_long [] a = omega arith
words_long (s ∷ ss) a =
    let small : s < 256 = a.0 in
    let w = word_long s (omega arith) in let i = words_long ss a.1 in
    let j : length (words (s ∷ ss)) ≡ length (word s) + length (words ss) = ap length (words-cons s ss) ∙ length-append (word s) (words ss) in
    omega (arith, w.long)

-- the reading of a string that begins with words
read_behind : (bytes ss rest : List ℕ) (x : Result (List ℕ) PrimFault) → bits_of bytes ≡ words ss ++ rest → AllByRecursion (λ s. s < 256) ss → ((most : ℕ) → symbols_in (suc most) (length (words ss)) rest ≡ x) → huff_of bytes ≡ joined ss x
unfolding huff_of
read_behind bytes ss rest x e a f =
    let l : length (bits_of bytes) ≡ length (words ss) + length rest = ap length e ∙ length-append (words ss) rest in
    let w = words_long ss a in
    let most : ℕ = length (bits_of bytes) - length ss in
    let n : length (bits_of bytes) + 1 ≡ length ss + suc most = omega arith in
    let z : 0 + length (words ss) ≡ length (words ss) = omega arith in
    ap (λ (m : ℕ). symbols_in m 0 (bits_of bytes)) n ∙ ap (λ (b : List ℕ). symbols_in (length ss + suc most) 0 b) e ∙ goes_behind ss (suc most) 0 rest a
    ∙ ap (λ (m : ℕ). joined ss (symbols_in (suc most) m rest)) z ∙ ap (joined ss) (f most)

pub huff_only : (bytes ss : List ℕ) → IsHuff bytes ss → huff_of bytes ≡ Ok ss
huff_only bytes ss h = read_behind bytes ss h.padding.0 (Ok []) h.padding.1 h.each (λ most. symbols_none most _ _ (padding_none h.padding.0 h.padding.2) h.padding.2) ∙ ap Ok (append-nil ss)

pub eos_only : (bytes : List ℕ) (at : ℕ) → HasEos bytes at → huff_of bytes ≡ Err (Eos at)
eos_only bytes at h = let t = h.split in
    read_behind bytes t.0 (word 256 ++ t.1) (Err (Eos (length (words t.0) / 8))) t.2 t.3 (λ most. symbols_eos most _ _ t.1 (walk_finds _ 256 t.1 (omega arith) refl)) ∙ ap (λ (p : ℕ). Err (Eos p)) (sym t.4)

tells : (bytes : List ℕ) → Tells 0 (bits_of bytes) (huff_of bytes)
unfolding huff_of
tells bytes = sound (length (bits_of bytes) + 1) 0 (bits_of bytes) (IsBits-bits_of bytes) (omega arith)

pub huff_found : (bytes ss : List ℕ) → huff_of bytes ≡ Ok ss → IsHuff bytes ss
huff_found bytes ss e = let t : Tells 0 (bits_of bytes) (Ok ss) = subst (Tells 0 (bits_of bytes)) e (tells bytes) in
    record { each = t.1.each; padding = (t.0, t.1.whole, t.2) }

pub eos_found : (bytes : List ℕ) (at : ℕ) → huff_of bytes ≡ Err (Eos at) → HasEos bytes at
eos_found bytes at e = let t : Tells 0 (bits_of bytes) (Err (Eos at)) = subst (Tells 0 (bits_of bytes)) e (tells bytes) in
    record { split = (t.0, t.1, t.2.whole, t.2.each, t.3 ∙ ap (λ (k : ℕ). k / 8) (omega arith)) }

pub rest_found : (bytes : List ℕ) (at : ℕ) → huff_of bytes ≡ Err (Padding at) → HasRest bytes at
rest_found bytes at e = let t : Tells 0 (bits_of bytes) (Err (Padding at)) = subst (Tells 0 (bits_of bytes)) e (tells bytes) in
    record { split = (t.0, t.1, t.2.whole, t.2.each, none_there t.1 t.3, t.4, t.5 ∙ ap (λ (k : ℕ). k / 8) (omega arith)) }

rest_at : (bs : List ℕ) (w : Option (ℕ × List ℕ)) → IsBits bs → ((s : ℕ) (more : List ℕ) → s < 257 → bs ≡ word s ++ more → ⊥) → symbol_at bs ≡ w → symbol_at bs ≡ None
rest_at bs None x none e = e
rest_at bs (Some (s, more)) x none e = let f = symbol_found bs s more x e in absurd (none s more f.symbol f.word_is)

pub rest_only : (bytes : List ℕ) (at : ℕ) → HasRest bytes at → huff_of bytes ≡ Err (Padding at)
rest_only bytes at h = let t = h.split in
    let x : IsBits t.1 = IsBits-right (words t.0) t.1 (subst IsBits t.2 (IsBits-bits_of bytes)) in
    read_behind bytes t.0 t.1 (Err (Padding (length (words t.0) / 8))) t.2 t.3 (λ most. symbols_rest most _ _ (rest_at t.1 (symbol_at t.1) x t.4 refl) t.5) ∙ ap (λ (p : ℕ). Err (Padding p)) (sym t.6)
