-- Bits read through a number of 32 bits.
use Rattle.std.proofs.Common.{◌≡◌, ℕ, zero, suc, ◌+◌, ◌-◌, ◌*◌, ◌/◌, ◌%◌, ◌^◌, ◌<◌, ◌≤◌, List, [], ◌∷◌, ◌++◌, length, get_or, take, drop, refl, ap, ap₂, sym, ◌∙◌, arith, append_assoc, length-append, length-drop, Option, Some, None, subst}
use Rattle.std.proofs.lemmas.Nat.{pow_pos, shr-shr, div-mul-add, div-add-mod'}
use Rattle.std.proofs.Math.Nat.{mul-add-div_right, pow-suc}
use Rattle.std.proofs.lemmas.List.{drop-append-le, drop-drop, drop_at, drop_all, take_at, take-append-le, take-append-drop, get_or-drop}
use Rattle.hpack_prim.specs.Huffman.{bits, bits_of, word, symbol_at}
use Rattle.hpack_prim.specs.Decoding.{Begins, HoldsBits}
use Rattle.hpack_prim.proofs.Walks.{IsBits, symbol_found, symbol_more, walk_finds, rank_in}
use Rattle.hpack_prim.proofs.BitLemmas.{length_bits, length_bits_of, drop_bits, bits_of-append, one_byte, IsBits-bits, IsBits-bits_of, IsBits-drop}

-- the high bits of a number, and the others
pub bits_split : (m j n : ℕ) → bits (m + j) n ≡ bits m (n / 2 ^ j) ++ bits j n
unfolding bits
bits_split zero j n = let e : 0 + j ≡ j = omega arith in rw e refl
bits_split (suc m) j n =
    let e : suc m + j ≡ suc (m + j) = omega arith in
    let s : j + m ≡ m + j = omega arith in
    let h : n / 2 ^ (m + j) ≡ n / 2 ^ j / 2 ^ m = ap (λ (k : ℕ). n / 2 ^ k) (sym s) ∙ sym (shr-shr n j m) in
    rw e (ap₂ ◌∷◌ (ap (λ (x : ℕ). x % 2) h) (bits_split m j n))

-- what is above the bits has no effect
pub bits_low : (j a b : ℕ) → bits j (a * 2 ^ j + b) ≡ bits j b
unfolding bits
bits_low zero a b = refl
bits_low (suc j) a b =
    let p : 2 ^ suc j ≡ 2 ^ j * 2 = pow-suc 2 j in
    let twice : a * 2 ^ suc j + b ≡ (a * 2) * 2 ^ j + b = rw p (omega arith) in
    let q : ((a * 2) * 2 ^ j + b) / 2 ^ j ≡ a * 2 + b / 2 ^ j = mul-add-div_right (pow_pos j) (a * 2) b in
    rw twice (ap₂ ◌∷◌ (rw q (omega arith)) (bits_low j (a * 2) b))

pub bits_mod : (j n : ℕ) → bits j (n % 2 ^ j) ≡ bits j n
bits_mod j n = sym (bits_low j (n / 2 ^ j) (n % 2 ^ j)) ∙ ap (bits j) (div-add-mod' n (2 ^ j))

-- ---- the code at the front

begins_more : (xs ys : List ℕ) (len s : ℕ) → Begins xs len s → Begins (xs ++ ys) len s
begins_more xs ys len s b = record {
  some = b.some;
  fits = omega (arith, b.fits, length-append xs ys);
  is = symbol_more xs ys s (drop len xs) b.is ∙ ap (λ (v : List ℕ). Some (s, v)) (sym (drop-append-le len xs ys b.fits));
}

pub begins_front : (k j front len s : ℕ) → k + j ≡ 30 → Begins (bits k (front / 2 ^ j)) len s → Begins (bits 30 front) len s
begins_front k j front len s e b = subst (λ (v : List ℕ). Begins v len s) (sym (bits_split k j front) ∙ ap (λ (n : ℕ). bits n front) e) (begins_more (bits k (front / 2 ^ j)) (bits j front) len s b)

-- ---- eight bytes

number_more : (k n b : ℕ) (xs : List ℕ) → bits k n ≡ bits_of xs → b < 256 → bits (k + 8) (n * 256 + b) ≡ bits_of (xs ++ b ∷ [])
number_more k n b xs e less =
    bits_split k 8 (n * 256 + b) ∙ ap₂ ◌++◌ (ap (bits k) (div-mul-add n 256 b less) ∙ e) (bits_low 8 n b ∙ sym (one_byte b)) ∙ sym (bits_of-append xs (b ∷ []))

four_is : (a b c d : ℕ) → b < 256 → c < 256 → d < 256 → bits 32 (((a * 256 + b) * 256 + c) * 256 + d) ≡ bits_of (a ∷ b ∷ c ∷ d ∷ [])
four_is a b c d lb lc ld = number_more 24 _ d (a ∷ b ∷ c ∷ []) (number_more 16 _ c (a ∷ b ∷ []) (number_more 8 a b (a ∷ []) (sym (one_byte a)) lb) lc) ld

abbrev four : List ℕ → ℕ → ℕ
four xs i = ((get_or xs i 0 * 256 + get_or xs (i + 1) 0) * 256 + get_or xs (i + 2) 0) * 256 + get_or xs (i + 3) 0

abbrev bytes_from : List ℕ → ℕ → List ℕ
bytes_from xs i = get_or xs i 0 ∷ get_or xs (i + 1) 0 ∷ get_or xs (i + 2) 0 ∷ get_or xs (i + 3) 0 ∷ []

four_small : (a b c d : ℕ) → a < 256 → b < 256 → c < 256 → d < 256 → ((a * 256 + b) * 256 + c) * 256 + d < 2 ^ 32
four_small a b c d la lb lc ld = omega arith

eight_is : (bytes : List ℕ) (start : ℕ) → ((i : ℕ) → get_or bytes i 0 < 256) → bits 64 (four bytes start * 2 ^ 32 + four bytes (start + 4)) ≡ bits_of (bytes_from bytes start ++ bytes_from bytes (start + 4))
eight_is bytes start less =
    let high : ℕ = four bytes start in let low : ℕ = four bytes (start + 4) in
    bits_split 32 32 (high * 2 ^ 32 + low)
    ∙ ap₂ ◌++◌ (ap (bits 32) (div-mul-add high (2 ^ 32) low (four_small _ _ _ _ (less _) (less _) (less _) (less _))) ∙ four_is _ _ _ _ (less _) (less _) (less _))
    (bits_low 32 high low ∙ four_is _ _ _ _ (less _) (less _) (less _))
    ∙ sym (bits_of-append (bytes_from bytes start) (bytes_from bytes (start + 4)))

abbrev zeros : List ℕ
zeros = 0 ∷ 0 ∷ 0 ∷ 0 ∷ 0 ∷ 0 ∷ 0 ∷ 0 ∷ []

abbrev front : List ℕ → List ℕ
front xs = get_or xs 0 0 ∷ get_or xs 1 0 ∷ get_or xs 2 0 ∷ get_or xs 3 0 ∷ get_or xs 4 0 ∷ get_or xs 5 0 ∷ get_or xs 6 0 ∷ get_or xs 7 0 ∷ []

eight_front : (xs : List ℕ) → (rest : List ℕ) × (xs ++ zeros ≡ front xs ++ rest)
eight_front [] = ([], refl)
eight_front (a ∷ []) = (0 ∷ [], refl)
eight_front (a ∷ b ∷ []) = (0 ∷ 0 ∷ [], refl)
eight_front (a ∷ b ∷ c ∷ []) = (0 ∷ 0 ∷ 0 ∷ [], refl)
eight_front (a ∷ b ∷ c ∷ d ∷ []) = (0 ∷ 0 ∷ 0 ∷ 0 ∷ [], refl)
eight_front (a ∷ b ∷ c ∷ d ∷ e ∷ []) = (0 ∷ 0 ∷ 0 ∷ 0 ∷ 0 ∷ [], refl)
eight_front (a ∷ b ∷ c ∷ d ∷ e ∷ f ∷ []) = (0 ∷ 0 ∷ 0 ∷ 0 ∷ 0 ∷ 0 ∷ [], refl)
eight_front (a ∷ b ∷ c ∷ d ∷ e ∷ f ∷ g ∷ []) = (0 ∷ 0 ∷ 0 ∷ 0 ∷ 0 ∷ 0 ∷ 0 ∷ [], refl)
eight_front (a ∷ b ∷ c ∷ d ∷ e ∷ f ∷ g ∷ h ∷ xs) = (xs ++ zeros, refl)

byte_is : (bytes : List ℕ) (start k i : ℕ) → k ≡ start + i → get_or bytes k 0 ≡ get_or (drop start bytes) i 0
byte_is bytes start k i e = ap (λ (n : ℕ). get_or bytes n 0) e ∙ sym (get_or-drop start bytes i 0)

same_front : (bytes : List ℕ) (start : ℕ) → bytes_from bytes start ++ bytes_from bytes (start + 4) ≡ front (drop start bytes)
same_front bytes start =
    ap₂ ◌∷◌ (byte_is bytes start start 0 (omega arith)) (ap₂ ◌∷◌ (byte_is bytes start _ 1 refl) (ap₂ ◌∷◌ (byte_is bytes start _ 2 refl) (ap₂ ◌∷◌ (byte_is bytes start _ 3 refl)
    (ap₂ ◌∷◌ (byte_is bytes start _ 4 refl) (ap₂ ◌∷◌ (byte_is bytes start _ 5 (omega arith)) (ap₂ ◌∷◌ (byte_is bytes start _ 6 (omega arith)) (ap (λ (x : ℕ). x ∷ []) (byte_is bytes start _ 7 (omega arith)))))))))

drop_bytes : (bytes : List ℕ) (i : ℕ) → drop (8 * i) (bits_of bytes) ≡ bits_of (drop i bytes)
unfolding bits_of
drop_bytes bytes zero = refl
drop_bytes [] (suc i) = drop_all (8 * suc i) [] (omega arith) ∙ sym (ap bits_of (drop_all (suc i) [] (omega arith)))
drop_bytes (b ∷ bytes) (suc i) =
    let e : 8 * suc i ≡ 8 + 8 * i = omega arith in
    rw e (sym (drop-drop (8 * i) 8 (bits 8 b ++ bits_of bytes)) ∙ ap (drop (8 * i)) (drop_at (bits 8 b) (bits_of bytes) 8 (length_bits 8 b)) ∙ drop_bytes bytes i)

-- eight bytes hold the bits at a place
holds_from : (bytes : List ℕ) (start r n held : ℕ) → r + held ≡ 64 → 8 * start + r ≤ 8 * length bytes → r < 8 → bits 64 n ≡ bits_of (front (drop start bytes)) → HoldsBits bytes (8 * start + r) n held
holds_from bytes start r n held sum inside few e =
    let d : List ℕ = drop start bytes in
    let f = eight_front d in
    let here : drop (8 * start + r) (bits_of bytes) ≡ drop r (bits_of d) = sym (drop-drop r (8 * start) (bits_of bytes)) ∙ ap (drop r) (drop_bytes bytes start) in
    let l = length_bits_of d in let m = length-drop start bytes in
    let behind : drop r (bits_of d) ++ bits_of zeros ≡ drop r (bits_of d ++ bits_of zeros) = sym (drop-append-le r (bits_of d) (bits_of zeros) (omega arith)) in
    let all : bits_of d ++ bits_of zeros ≡ bits 64 n ++ bits_of f.0 = sym (bits_of-append d zeros) ∙ ap bits_of f.1 ∙ bits_of-append (front d) f.0 ∙ ap (λ (v : List ℕ). v ++ bits_of f.0) (sym e) in
    let k = length_bits 64 n in
    let cut : drop r (bits 64 n ++ bits_of f.0) ≡ bits held n ++ bits_of f.0 = drop-append-le r (bits 64 n) (bits_of f.0) (omega arith) ∙ ap (λ (v : List ℕ). v ++ bits_of f.0) (drop_bits r 64 held n sum) in
    record {
      tail = bits_of zeros;
      more = bits_of f.0;
      whole = sym cut ∙ ap (drop r) (sym all) ∙ sym behind ∙ ap (λ (v : List ℕ). v ++ bits_of zeros) (sym here);
    }

pub holds_at : (bytes : List ℕ) (at number held : ℕ) → at ≤ 8 * length bytes → ((i : ℕ) → get_or bytes i 0 < 256) → number ≡ four bytes (at / 8) * 2 ^ 32 + four bytes (at / 8 + 4) → held ≡ 64 - at % 8 → HoldsBits bytes at number held
holds_at bytes at number held inside less e h =
    let start = at / 8 in let r = at % 8 in
    let here : 8 * start + r ≡ at = omega arith in
    subst (λ (k : ℕ). HoldsBits bytes k number held) here (holds_from bytes start r number held (omega arith) (omega arith) (omega arith) (ap (bits 64) e ∙ eight_is bytes start less ∙ ap bits_of (same_front bytes start)))

pub holds_none : (bytes : List ℕ) → HoldsBits bytes 0 0 0
unfolding bits
holds_none bytes = record { tail = []; more = bits_of bytes ++ []; whole = refl }

-- the bits behind a code
pub holds_next : (bytes : List ℕ) (at number held len : ℕ) → HoldsBits bytes at number held → len ≤ held → at + len ≤ 8 * length bytes → HoldsBits bytes (at + len) number (held - len)
holds_next bytes at number held len w few inside =
    let k = length_bits held number in let l = length-drop at (bits_of bytes) in let m = length_bits_of bytes in
    record {
      tail = w.tail;
      more = w.more;
      whole = ap (λ (v : List ℕ). v ++ w.more) (sym (drop_bits len held (held - len) number (omega arith))) ∙ sym (drop-append-le len (bits held number) w.more (omega arith)) ∙ ap (drop len) w.whole
          ∙ drop-append-le len (drop at (bits_of bytes)) w.tail (omega arith) ∙ ap (λ (v : List ℕ). v ++ w.tail) (drop-drop len at (bits_of bytes));
    }

-- the first 30 of the bits
pub holds_front : (bytes : List ℕ) (at number held front : ℕ) → HoldsBits bytes at number held → 30 ≤ held → front ≡ number / 2 ^ (held - 30) % 2 ^ 30 → HoldsBits bytes at front 30
holds_front bytes at number held front w many e =
    let j : ℕ = held - 30 in
    let s : held ≡ 30 + j = omega arith in
    let split : bits held number ≡ bits 30 front ++ bits j number = ap (λ (k : ℕ). bits k number) s ∙ bits_split 30 j number ∙ ap (λ (v : List ℕ). v ++ bits j number) (sym (bits_mod 30 (number / 2 ^ j)) ∙ ap (bits 30) (sym e)) in
    record { tail = w.tail; more = bits j number ++ w.more; whole = sym (append_assoc (bits 30 front) (bits j number) w.more) ∙ ap (λ (v : List ℕ). v ++ w.more) (sym split) ∙ w.whole }

-- ---- the symbol at a place

code_long : (window len s : ℕ) → Begins (bits 30 window) len s → (bits 30 window ≡ word s ++ drop len (bits 30 window)) × (length (word s) ≡ len) × (s < 257)
code_long window len s b =
    let f = symbol_found (bits 30 window) s (drop len (bits 30 window)) (IsBits-bits 30 window) b.is in
    let l : length (bits 30 window) ≡ length (word s) + length (drop len (bits 30 window)) = ap length f.word_is ∙ length-append (word s) (drop len (bits 30 window)) in
    let d = length-drop len (bits 30 window) in
    (f.word_is, omega (arith, b.fits), f.symbol)

-- the window has a code that lies within the bits
pub symbol_there : (bytes : List ℕ) (at window len s : ℕ) → HoldsBits bytes at window 30 → Begins (bits 30 window) len s → at + len ≤ 8 * length bytes → symbol_at (drop at (bits_of bytes)) ≡ Some (s, drop (at + len) (bits_of bytes))
symbol_there bytes at window len s w b inside =
    let xs : List ℕ = drop at (bits_of bytes) in
    let c = code_long window len s b in
    let l = length-drop at (bits_of bytes) in let k = length_bits_of bytes in
    let all : word s ++ (drop len (bits 30 window) ++ w.more) ≡ xs ++ w.tail = sym (append_assoc (word s) (drop len (bits 30 window)) w.more) ∙ ap (λ (v : List ℕ). v ++ w.more) (sym c.0) ∙ w.whole in
    let front : word s ≡ take len xs = sym (take_at (word s) (drop len (bits 30 window) ++ w.more) len c.1) ∙ ap (take len) all ∙ take-append-le len xs w.tail (omega arith) in
    let whole : xs ≡ word s ++ drop len xs = sym (take-append-drop len xs) ∙ ap (λ (v : List ℕ). v ++ drop len xs) (sym front) in
    walk_finds xs s (drop len xs) c.2 whole ∙ ap (λ (v : List ℕ). Some (s, v)) (drop-drop len at (bits_of bytes))

same_symbol : (bs : List ℕ) (t s : ℕ) (q r : List ℕ) → symbol_at bs ≡ Some (t, q) → symbol_at bs ≡ Some (s, r) → t ≡ s
same_symbol bs t s q r e f = ap rank_in (sym e ∙ f)

-- a code of these bits would end where the window's code does
no_symbol : (xs tail : List ℕ) (len s : ℕ) (r : List ℕ) (w : Option (ℕ × List ℕ)) → IsBits xs → symbol_at (xs ++ tail) ≡ Some (s, r) → length (word s) ≡ len → length xs < len → symbol_at xs ≡ w → symbol_at xs ≡ None
no_symbol xs tail len s r None x e l short f = f
no_symbol xs tail len s r (Some (t, q)) x e l short f =
    let g = symbol_found xs t q x f in
    let m : length xs ≡ length (word t) + length q = ap length g.word_is ∙ length-append (word t) q in
    let same = same_symbol (xs ++ tail) t s (q ++ tail) r (symbol_more xs tail t q f) e in
    let k : length (word t) ≡ len = ap (λ (n : ℕ). length (word n)) same ∙ l in
    absurd (omega (arith, m, k, short))

-- the window has a code that goes on behind the bits
pub symbol_missing : (bytes : List ℕ) (at window len s : ℕ) → HoldsBits bytes at window 30 → Begins (bits 30 window) len s → at ≤ 8 * length bytes → 8 * length bytes < at + len → symbol_at (drop at (bits_of bytes)) ≡ None
symbol_missing bytes at window len s w b inside past =
    let xs : List ℕ = drop at (bits_of bytes) in
    let c = code_long window len s b in
    let l = length-drop at (bits_of bytes) in let k = length_bits_of bytes in
    no_symbol xs w.tail len s (drop len (bits 30 window) ++ w.more) (symbol_at xs) (IsBits-drop at _ (IsBits-bits_of bytes))
    (ap symbol_at (sym w.whole) ∙ symbol_more (bits 30 window) w.more s (drop len (bits 30 window)) b.is) c.1 (omega arith) refl
