-- The bits of bytes.
use Rattle.std.proofs.Common.{◌≡◌, ℕ, zero, suc, ◌+◌, ◌-◌, ◌*◌, ◌/◌, ◌%◌, ◌^◌, ◌<◌, ◌≤◌, false, nat_eq, List, [], ◌∷◌, ◌++◌, length, get_or, drop, refl, ap, sym, ◌∙◌, arith, length-append, append_assoc, append-nil, lt-ltb, le-ltb}
use Rattle.std.proofs.lemmas.List.{drop-append-le, drop-drop, drop_at, drop_all}
use Rattle.std.specs.List.{list_all}
use Rattle.hpack_prim.specs.Huffman.{bits, bits_of, is_padding}
use Rattle.hpack_prim.proofs.Walks.{IsBits}

pub length_bits : (k n : ℕ) → length (bits k n) ≡ k
unfolding bits
length_bits zero n = refl
length_bits (suc k) n = ap suc (length_bits k n)

pub length_bits_of : (bytes : List ℕ) → length (bits_of bytes) ≡ 8 * length bytes
unfolding bits_of
length_bits_of [] = refl
length_bits_of (b ∷ bytes) = omega (arith, length-append (bits 8 b) (bits_of bytes), length_bits 8 b, length_bits_of bytes)

pub bits_more : (m n : ℕ) → bits (suc m) n ≡ (n / 2 ^ m % 2) ∷ bits m n
unfolding bits
bits_more m n = refl

pub drop_bits : (j k m n : ℕ) → j + m ≡ k → drop j (bits k n) ≡ bits m n
unfolding bits
drop_bits zero k m n e = let f : m ≡ k = omega arith in rw f refl
drop_bits (suc j) zero m n e = absurd (omega arith)
drop_bits (suc j) (suc k) m n e = drop_bits j k m n (omega arith)

cons_bits_of : (b : ℕ) (bytes : List ℕ) → bits_of (b ∷ bytes) ≡ bits 8 b ++ bits_of bytes
unfolding bits_of
cons_bits_of b bytes = refl

pub bits_at : (bytes : List ℕ) (i j : ℕ) → j ≤ 8 → i < length bytes → drop (8 * i + j) (bits_of bytes) ≡ drop j (bits 8 (get_or bytes i 0)) ++ bits_of (drop (i + 1) bytes)
bits_at [] i j low inside = absurd (omega arith)
bits_at (b ∷ bytes) zero j low inside =
    let e : 8 * zero + j ≡ j = omega arith in
    let f : j ≤ length (bits 8 b) = omega (arith, length_bits 8 b) in
    rw (e, cons_bits_of b bytes) (drop-append-le j (bits 8 b) (bits_of bytes) f)
bits_at (b ∷ bytes) (suc i) j low inside =
    let e : 8 * suc i + j ≡ 8 + (8 * i + j) = omega arith in
    let g : suc i + 1 ≡ suc (i + 1) = omega arith in
    rw (e, g, cons_bits_of b bytes) (sym (drop-drop (8 * i + j) 8 (bits 8 b ++ bits_of bytes)) ∙ ap (drop (8 * i + j)) (drop_at (bits 8 b) (bits_of bytes) 8 (length_bits 8 b)) ∙ bits_at bytes i j low (omega arith))

-- the bit at a place, and the bits behind it
pub bit_is : (bytes : List ℕ) (place byte : ℕ) → place / 8 < length bytes → byte ≡ get_or bytes (place / 8) 0
    → drop place (bits_of bytes) ≡ (byte / 2 ^ (7 - place % 8) % 2) ∷ drop (place + 1) (bits_of bytes)
bit_is bytes place byte inside e =
    let i = place / 8 in let j = place % 8 in let m = 7 - place % 8 in
    let here : place ≡ 8 * i + j = omega arith in
    let next : place + 1 ≡ 8 * i + (j + 1) = omega arith in
    let a : drop place (bits_of bytes) ≡ bits (suc m) byte ++ bits_of (drop (i + 1) bytes) =
    ap (λ (k : ℕ). drop k (bits_of bytes)) here ∙ bits_at bytes i j (omega arith) inside ∙ rw (← e) (ap (λ (v : List ℕ). v ++ bits_of (drop (i + 1) bytes)) (drop_bits j 8 (suc m) byte (omega arith))) in
    let b : drop (place + 1) (bits_of bytes) ≡ bits m byte ++ bits_of (drop (i + 1) bytes) =
    ap (λ (k : ℕ). drop k (bits_of bytes)) next ∙ bits_at bytes i (j + 1) (omega arith) inside ∙ rw (← e) (ap (λ (v : List ℕ). v ++ bits_of (drop (i + 1) bytes)) (drop_bits (j + 1) 8 m byte (omega arith))) in
    a ∙ ap (λ (v : List ℕ). v ++ bits_of (drop (i + 1) bytes)) (bits_more m byte) ∙ ap (λ (v : List ℕ). (byte / 2 ^ m % 2) ∷ v) (sym b)

pub no_bit : (bytes : List ℕ) (place : ℕ) → length bytes ≤ place / 8 → drop place (bits_of bytes) ≡ []
no_bit bytes place past = drop_all place (bits_of bytes) (omega (arith, length_bits_of bytes))

-- ---- joined bytes

pub bits_of-append : (xs ys : List ℕ) → bits_of (xs ++ ys) ≡ bits_of xs ++ bits_of ys
unfolding bits_of
bits_of-append [] ys = refl
bits_of-append (x ∷ xs) ys = ap (λ (v : List ℕ). bits 8 x ++ v) (bits_of-append xs ys) ∙ sym (append_assoc (bits 8 x) (bits_of xs) (bits_of ys))

pub one_byte : (x : ℕ) → bits_of (x ∷ []) ≡ bits 8 x
unfolding bits_of
one_byte x = append-nil (bits 8 x)

-- ---- each is 0 or 1

IsBits-append : (xs ys : List ℕ) → IsBits xs → IsBits ys → IsBits (xs ++ ys)
IsBits-append [] ys a b = b
IsBits-append (x ∷ xs) ys a b = (a.0, IsBits-append xs ys a.1 b)

pub IsBits-bits : (k n : ℕ) → IsBits (bits k n)
unfolding bits
IsBits-bits zero n = tt
IsBits-bits (suc k) n = (omega arith, IsBits-bits k n)

pub IsBits-bits_of : (bytes : List ℕ) → IsBits (bits_of bytes)
unfolding bits_of
IsBits-bits_of [] = tt
IsBits-bits_of (b ∷ bytes) = IsBits-append (bits 8 b) (bits_of bytes) (IsBits-bits 8 b) (IsBits-bits_of bytes)

pub IsBits-drop : (n : ℕ) (xs : List ℕ) → IsBits xs → IsBits (drop n xs)
IsBits-drop zero xs a = a
IsBits-drop (suc n) [] a = tt
IsBits-drop (suc n) (x ∷ xs) a = IsBits-drop n xs a.1

-- ---- padding

pub too_long : (bs : List ℕ) → 8 ≤ length bs → is_padding bs ≡ false
unfolding is_padding
too_long bs long = rw (le-ltb (length bs) 8 long) refl

pub all_one : (bs : List ℕ) → length bs < 8 → is_padding bs ≡ list_all (λ b. nat_eq b 1) bs
unfolding is_padding
all_one bs short = rw (lt-ltb (length bs) 8 short) refl
