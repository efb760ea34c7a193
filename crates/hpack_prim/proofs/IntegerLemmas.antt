-- Integers, group by group.
use Rattle.std.proofs.Common.{◌≡◌, ℕ, zero, suc, ◌+◌, ◌-◌, ◌*◌, ◌/◌, ◌%◌, ◌^◌, ◌<◌, ◌≤◌, List, [], ◌∷◌, ◌++◌, length, take, drop, set, refl, ap, sym, ◌∙◌, arith, lt-ltb, le-ltb, ◌⊎◌, inl, inr, lit<, append_assoc, add-one}
use Rattle.std.proofs.Math.Nat.{pow-le-pow_right, pow-suc, mul-le-mul_left}
use Rattle.std.proofs.lemmas.List.{take_more_set, set_split, drop-drop}
use Rattle.hpack_prim.specs.Integers.{groups, shortest, int, groups_at}

pub groups_last : (k n : ℕ) → n < 128 → groups k n ≡ n ∷ []
unfolding groups
groups_last zero n small = refl
groups_last (suc k) n small = rw (lt-ltb n 128 small, groups) refl

pub groups_step : (k n : ℕ) → 128 ≤ n → groups (suc k) n ≡ (n % 128 + 128) ∷ groups k (n / 128)
unfolding groups
groups_step k n large = rw (le-ltb n 128 large, groups) refl

pub below_or_not : (n m : ℕ) → (n < m) ⊎ (m ≤ n)
below_or_not n m = grind arith

pub groups_same : (k j n : ℕ) → n ≤ k → n ≤ j → groups k n ≡ groups j n
groups_same zero j n a b = groups_last zero n (omega arith) ∙ sym (groups_last j n (omega arith))
groups_same (suc k) zero n a b = groups_last (suc k) n (omega arith) ∙ sym (groups_last zero n (omega arith))
groups_same (suc k) (suc j) n a b = elim (below_or_not n 128) [
  | inl small ↦ groups_last (suc k) n small ∙ sym (groups_last (suc j) n small)
  | inr large ↦ groups_step k n large ∙ ap (λ (rest : List ℕ). (n % 128 + 128) ∷ rest) (groups_same k j (n / 128) (omega arith) (omega arith)) ∙ sym (groups_step j n large)
]

pub shortest_last : (n : ℕ) → n < 128 → shortest n ≡ n ∷ []
unfolding shortest
shortest_last n small = groups_last n n small

pub shortest_more : (n : ℕ) → 128 ≤ n → shortest n ≡ (n % 128 + 128) ∷ shortest (n / 128)
unfolding shortest
shortest_more zero large = absurd (omega arith)
shortest_more (suc n) large = groups_step n (suc n) large ∙ ap (λ (rest : List ℕ). (suc n % 128 + 128) ∷ rest) (groups_same n (suc n / 128) (suc n / 128) (omega arith) (omega arith))

pub length_last : (n : ℕ) → n < 128 → length (shortest n) ≡ 1
length_last n small = ap length (shortest_last n small)

pub length_more : (n : ℕ) → 128 ≤ n → length (shortest n) ≡ length (shortest (n / 128)) + 1
length_more n large = ap length (shortest_more n large) ∙ omega arith

-- n below 128^(k+1) has at most k+1 groups
short : (k n : ℕ) → n < 128 ^ suc k → length (shortest n) ≤ suc k
short zero n below = let e : length (shortest n) ≡ 1 = length_last n (omega arith) in omega arith
short (suc k) n below = elim (below_or_not n 128) [
  | inl small ↦ let e : length (shortest n) ≡ 1 = length_last n small in omega arith
  | inr large ↦ let e = length_more n large in let p : 128 ^ suc (suc k) ≡ 128 ^ suc k * 128 = pow-suc 128 (suc k) in let i = short k (n / 128) (omega arith) in omega arith
]

pub five : (n : ℕ) → n < 2 ^ 32 → length (shortest n) ≤ 5
five n below = short 4 n (omega arith)

pub weight_small : (c : ℕ) → c < 5 → 128 ^ c ≤ 2 ^ 28
weight_small c less = pow-le-pow_right {n = 128} (lit< tt) {i = c} {j = 4} (omega arith)

pub weight_more : (c : ℕ) → 128 ^ (c + 1) ≡ 128 ^ c * 128
weight_more c = rw add-one (pow-suc 128 c)

-- the bits of the prefix are free in the first byte
pub fits_first : (prefix first n : ℕ) → 1 ≤ prefix → prefix ≤ 8 → first < 256 → first % 2 ^ prefix ≡ 0 → n < 2 ^ prefix → first + n < 256
fits_first zero first n low high byte free small = absurd (omega arith)
fits_first (suc zero) first n low high byte free small = omega arith
fits_first (suc (suc zero)) first n low high byte free small = omega arith
fits_first (suc (suc (suc zero))) first n low high byte free small = omega arith
fits_first (suc (suc (suc (suc zero)))) first n low high byte free small = omega arith
fits_first (suc (suc (suc (suc (suc zero))))) first n low high byte free small = omega arith
fits_first (suc (suc (suc (suc (suc (suc zero)))))) first n low high byte free small = omega arith
fits_first (suc (suc (suc (suc (suc (suc (suc zero))))))) first n low high byte free small = omega arith
fits_first (suc (suc (suc (suc (suc (suc (suc (suc zero)))))))) first n low high byte free small = omega arith
fits_first (suc (suc (suc (suc (suc (suc (suc (suc (suc prefix))))))))) first n low high byte free small = absurd (omega arith)

pub int_last : (prefix first n full : ℕ) → full + 1 ≡ 2 ^ prefix → n < full → int prefix first n ≡ (first + n) ∷ []
unfolding int
int_last prefix first n full e small = rw (lt-ltb (n + 1) (2 ^ prefix) (omega arith)) refl

pub int_more : (prefix first n full : ℕ) → full + 1 ≡ 2 ^ prefix → full ≤ n → int prefix first n ≡ (first + full) ∷ shortest (n - full)
unfolding int
int_more prefix first n full e large =
    let f : 2 ^ prefix - 1 ≡ full = omega arith in
    rw (le-ltb (n + 1) (2 ^ prefix) (omega arith), f) refl

-- a group more is written
pub written_more : (out whole : List ℕ) (at n : ℕ) → 128 ≤ n → at < length out → take at out ++ shortest n ≡ whole → take (at + 1) (set out at (n % 128 + 128)) ++ shortest (n / 128) ≡ whole
written_more out whole at n large inside e = rw (take_more_set out at (n % 128 + 128) inside, append_assoc) (sym (ap (λ (v : List ℕ). take at out ++ v) (shortest_more n large)) ∙ e)

-- the last group is written
pub written_last : (out whole : List ℕ) (at n : ℕ) → n < 128 → at < length out → take at out ++ shortest n ≡ whole → set out at n ≡ whole ++ drop (at + 1) out
written_last out whole at n small inside e =
    set_split out at n inside ∙ rw (add-one) (sym (append_assoc (take at out) (n ∷ []) (drop (suc at) out)) ∙ ap (λ (v : List ℕ). v ++ drop (suc at) out) (sym (ap (λ (v : List ℕ). take at out ++ v) (shortest_last n small)) ∙ e))

pub drop_next : (xs ys : List ℕ) (i : ℕ) → drop i xs ≡ drop i ys → drop (i + 1) xs ≡ drop (i + 1) ys
drop_next xs ys i e = sym (drop-drop 1 i xs) ∙ ap (drop 1) e ∙ drop-drop 1 i ys

pub product : (w b c : ℕ) → w ≡ 128 ^ c → c < 5 → b < 128 → w * b < 2 ^ 35
product w b c e less byte = let s = weight_small c less in let m : w * b ≤ w * 127 = mul-le-mul_left w (omega arith) in omega arith

pub groups_more : (left value weight at b : ℕ) (bs : List ℕ) → value + weight * (b % 128) < 2 ^ 32 → 128 ≤ b
    → groups_at (suc left) value weight at (b ∷ bs) ≡ groups_at left (value + weight * (b % 128)) (weight * 128) (at + 1) bs
unfolding groups_at
groups_more left value weight at b bs fits large = rw (lt-ltb (value + weight * (b % 128)) (2 ^ 32) fits, le-ltb b 128 large) refl

-- the first byte is written
pub set_first : (xs : List ℕ) (v : ℕ) → 6 ≤ length xs → set xs 0 v ≡ v ∷ drop 1 xs
set_first [] v room = absurd (omega arith)
set_first (x ∷ xs) v room = refl
