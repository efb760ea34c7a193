-- Bits written one by one.
use Rattle.std.proofs.Common.{◌≡◌, ℕ, zero, suc, ◌+◌, ◌-◌, ◌*◌, ◌/◌, ◌%◌, ◌^◌, ◌<◌, ◌≤◌, Bool, true, ◌&&◌, nat_le, nat_lt, List, [], ◌∷◌, ◌++◌, length, take, drop, set, get_or, replicate, length-append, refl, ap, ap₂, sym, ◌∙◌, arith, append_assoc, append-nil, lit<, add-one}
use Rattle.std.proofs.Math.Nat.{pow-le-pow_right}
use Rattle.std.proofs.lemmas.Nat.{shr-shr}
use Rattle.std.proofs.lemmas.List.{take_more_set, drop-set-lt, drop-drop, drop_more, drop_all, replicate_more}
use borrow.Author.Tests.{leb-true, ltb-true}
use Rattle.std.specs.List.{AllByRecursion}
use Rattle.std.specs.Str.{bytes_eq}
use Rattle.std.proofs.lemmas.Slice.Eq.{bytes_eq-Decides}
use Rattle.hpack_prim.specs.Huffman.{bits, bits_of, rows, word_in, word, words, is_padding, IsHuff}
use Rattle.hpack_prim.specs.Encoding.{spelled, IsPending, code, len}
use Rattle.std.proofs.lemmas.Nat.{div-mul-add}
use Rattle.hpack_prim.proofs.Windows.{bits_split, bits_low, bits_mod}
use Rattle.hpack_prim.proofs.Codes.{below, both}
use Rattle.hpack_prim.proofs.BitLemmas.{length_bits, bits_of-append, one_byte}

pub small_part : (held part : ℕ) → IsPending held part → part < 128
small_part held part p = let e : 2 ^ held ≤ 2 ^ 7 = pow-le-pow_right {n = 2} (lit< tt) {i = held} {j = 7} (let f = p.few in omega arith) in omega (arith, p.fits)

-- a bit more behind the others
pub bits_behind : (k p b : ℕ) → b < 2 → bits (suc k) (2 * p + b) ≡ bits k p ++ b ∷ []
unfolding bits
bits_behind zero p b small = let e : (2 * p + b) / 2 ^ 0 % 2 ≡ b = omega arith in ap (λ (x : ℕ). x ∷ []) e
bits_behind (suc k) p b small =
    let half : (2 * p + b) / 2 ≡ p = omega arith in
    let e : (2 * p + b) / 2 ^ suc k ≡ p / 2 ^ k = let j : 1 + k ≡ suc k = omega arith in ap (λ (m : ℕ). (2 * p + b) / 2 ^ m) (sym j) ∙ sym (shr-shr (2 * p + b) 1 k) ∙ ap (λ (m : ℕ). m / 2 ^ k) half in
    ap₂ ◌∷◌ (ap (λ (m : ℕ). m % 2) e) (bits_behind k p b small)

no_bits : (x : ℕ) → bits 0 x ≡ []
unfolding bits
no_bits x = refl

pub spelled_held : (out : List ℕ) (w h p b : ℕ) → b < 2 → spelled out w (h + 1) (2 * p + b) ≡ spelled out w h p ++ b ∷ []
spelled_held out w h p b small = rw add-one (ap (λ (v : List ℕ). bits_of (take w out) ++ v) (bits_behind h p b small) ∙ sym (append_assoc (bits_of (take w out)) (bits h p) (b ∷ [])))

pub spelled_whole : (out : List ℕ) (w h p b : ℕ) → h ≡ 7 → b < 2 → w < length out → spelled (set out w (2 * p + b)) (w + 1) 0 0 ≡ spelled out w h p ++ b ∷ []
spelled_whole out w h p b e small room =
    ap (λ (v : List ℕ). bits_of (take (w + 1) (set out w (2 * p + b))) ++ v) (no_bits 0) ∙ append-nil (bits_of (take (w + 1) (set out w (2 * p + b))))
    ∙ ap bits_of (take_more_set out w (2 * p + b) room) ∙ bits_of-append (take w out) ((2 * p + b) ∷ [])
    ∙ ap (λ (v : List ℕ). bits_of (take w out) ++ v) (one_byte (2 * p + b) ∙ bits_behind 7 p b small ∙ ap (λ (k : ℕ). bits k p ++ b ∷ []) (sym e)) ∙ sym (append_assoc (bits_of (take w out)) (bits h p) (b ∷ []))

-- ---- the table of numbers, checked word by word

code_fits : ℕ → Bool
code_fits s = bytes_eq (word s) (bits (len s) (code s)) && (nat_le (len s) 30 && nat_lt (code s) (2 ^ len s))

codes_fit : ℕ → Bool
codes_fit zero = true
codes_fit (suc n) = code_fits n && codes_fit n

codes_checked : codes_fit 257 ≡ true
unfolding codes_fit code_fits bits rows word_in word code len
codes_checked = refl

pub word_is : (s : ℕ) → s < 257 → (word s ≡ bits (len s) (code s)) × (len s ≤ 30) × (code s < 2 ^ len s)
unfolding codes_fit code_fits
word_is s less =
    let h = both _ _ (below code_fits codes_fit refl (λ n. refl) 257 codes_checked s less) in let k = both _ _ h.1 in
    ((bytes_eq-Decides (word s) (bits (len s) (code s))).0 h.0, leb-true (len s) 30 k.0, ltb-true (code s) (2 ^ len s) k.1)

pub drop_later : (xs ys : List ℕ) (i j : ℕ) → i ≤ j → drop i xs ≡ drop i ys → drop j xs ≡ drop j ys
drop_later xs ys i j le e = let f : i + (j - i) ≡ j = omega arith in
    sym (ap (λ (k : ℕ). drop k xs) f) ∙ sym (drop-drop (j - i) i xs) ∙ ap (drop (j - i)) e ∙ drop-drop (j - i) i ys ∙ ap (λ (k : ℕ). drop k ys) f

pub word_long_is : (s : ℕ) → s < 257 → length (word s) ≡ len s
word_long_is s less = ap length (word_is s less).0 ∙ length_bits (len s) (code s)

-- a byte written past a place leaves what is behind it
pub behind_byte : (xs ys : List ℕ) (i x : ℕ) → drop i xs ≡ drop i ys → drop (i + 1) (set xs i x) ≡ drop (i + 1) ys
behind_byte xs ys i x e = drop-set-lt (i + 1) xs i x (omega arith) ∙ drop_later xs ys i (i + 1) (omega arith) e

-- the bits so far and a word, as one number
pub word_joins : (held part len code : ℕ) → code < 2 ^ len → bits (held + len) (part * 2 ^ len + code) ≡ bits held part ++ bits len code
word_joins held part len code less = bits_split held len (part * 2 ^ len + code) ∙ ap₂ ◌++◌ (ap (bits held) (div-mul-add part (2 ^ len) code less)) (bits_low len part code)

-- a byte of the number is written
pub byte_written : (out : List ℕ) (written held left number : ℕ) (whole : List ℕ) → left + 8 ≡ held → written < length out → bits_of (take written out) ++ bits held number ≡ whole
    → bits_of (take (written + 1) (set out written (number / 2 ^ left % 256))) ++ bits left number ≡ whole
byte_written out written held left number whole sum room e =
    let byte : ℕ = number / 2 ^ left % 256 in
    let s : held ≡ 8 + left = omega arith in
    let split : bits held number ≡ bits 8 byte ++ bits left number = ap (λ (k : ℕ). bits k number) s ∙ bits_split 8 left number ∙ ap (λ (v : List ℕ). v ++ bits left number) (sym (bits_mod 8 (number / 2 ^ left))) in
    ap (λ (v : List ℕ). v ++ bits left number) (ap bits_of (take_more_set out written byte room) ∙ bits_of-append (take written out) (byte ∷ []) ∙ ap (λ (v : List ℕ). bits_of (take written out) ++ v) (one_byte byte))
    ∙ append_assoc (bits_of (take written out)) (bits 8 byte) (bits left number) ∙ ap (λ (v : List ℕ). bits_of (take written out) ++ v) (sym split) ∙ e

pub words-cons : (s : ℕ) (ss : List ℕ) → words (s ∷ ss) ≡ word s ++ words ss
unfolding words
words-cons s ss = refl

pub words-nil : words [] ≡ []
unfolding words
words-nil = refl

pub words_more : (xs : List ℕ) (i x : ℕ) → i < length xs → x ≡ get_or xs i 0 → words (drop i xs) ≡ word x ++ words (drop (i + 1) xs)
words_more xs i x inside e = ap words (drop_more xs i 0 inside ∙ ap (λ (y : ℕ). y ∷ drop (i + 1) xs) (sym e)) ∙ words-cons x (drop (i + 1) xs)

pub words_end : (xs : List ℕ) (i : ℕ) → length xs ≤ i → words (drop i xs) ≡ []
words_end xs i past = ap words (drop_all i xs past) ∙ words-nil

pub length_words_more : (xs : List ℕ) (i x : ℕ) → i < length xs → x ≡ get_or xs i 0 → length (words (drop i xs)) ≡ length (word x) + length (words (drop (i + 1) xs))
length_words_more xs i x inside e = ap length (words_more xs i x inside e) ∙ length-append (word x) (words (drop (i + 1) xs))

-- a word moves behind the bits so far
pub word_moves : (xs now next : List ℕ) (i x : ℕ) (whole : List ℕ) → i < length xs → x ≡ get_or xs i 0 → now ++ words (drop i xs) ≡ whole → next ≡ now ++ word x → next ++ words (drop (i + 1) xs) ≡ whole
word_moves xs now next i x whole inside e f g = ap (λ (v : List ℕ). v ++ words (drop (i + 1) xs)) g ∙ append_assoc now (word x) (words (drop (i + 1) xs)) ∙ ap (λ (v : List ℕ). now ++ v) (sym (words_more xs i x inside e)) ∙ f

-- ---- padding

pads : ℕ → Bool
pads n = is_padding (replicate n 1)

all_pads : ℕ → Bool
all_pads zero = true
all_pads (suc n) = pads n && all_pads n

pads_checked : all_pads 8 ≡ true
unfolding all_pads pads is_padding
pads_checked = refl

pub pad_is : (n : ℕ) → n < 8 → is_padding (replicate n 1) ≡ true
unfolding all_pads pads
pad_is n less = below pads all_pads refl (λ n. refl) 8 pads_checked n less

pub pad_more : (now next front : List ℕ) (n : ℕ) → now ≡ front ++ replicate n 1 → next ≡ now ++ 1 ∷ [] → next ≡ front ++ replicate (n + 1) 1
pad_more now next front n e f = f ∙ ap (λ (v : List ℕ). v ++ 1 ∷ []) e ∙ append_assoc front (replicate n 1) (1 ∷ []) ∙ ap (λ (v : List ℕ). front ++ v) (replicate_more n 1)

bytes_fit : (xs : List ℕ) → ((i : ℕ) → get_or xs i 0 < 256) → AllByRecursion (λ s. s < 256) xs
bytes_fit [] h = tt
bytes_fit (x ∷ xs) h = (h 0, bytes_fit xs (λ i. h (suc i)))

pub padded : (out bytes : List ℕ) (w p n : ℕ) → spelled out w 0 p ≡ words bytes ++ replicate n 1 → n < 8 → ((i : ℕ) → get_or bytes i 0 < 256) → IsHuff (take w out) bytes
padded out bytes w p n e less h = record {
  each = bytes_fit bytes h;
  padding = (replicate n 1, sym (ap (λ (v : List ℕ). bits_of (take w out) ++ v) (no_bits p) ∙ append-nil (bits_of (take w out))) ∙ e, pad_is n less);
}

pub nothing_yet : (out : List ℕ) (whole : List ℕ) → spelled out 0 0 0 ++ whole ≡ whole
unfolding bits_of bits
nothing_yet out whole = refl

pub no_words_left : (xs now whole : List ℕ) (i : ℕ) → length xs ≤ i → now ++ words (drop i xs) ≡ whole → now ≡ whole ++ []
no_words_left xs now whole i past e = sym (append-nil now) ∙ ap (λ (v : List ℕ). now ++ v) (sym (words_end xs i past)) ∙ e ∙ sym (append-nil whole)
