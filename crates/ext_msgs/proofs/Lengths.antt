-- How long the shortest varints are.
use Rattle.std.proofs.Common.{◌≡◌, ℕ, zero, suc, ◌+◌, ◌*◌, ◌/◌, ◌<◌, ◌≤◌, length, ap, subst, ◌∙◌, arith, inl, inr}
use Rattle.std.proofs.lemmas.Bool.{cases_lt}
use Rattle.pb_wire.specs.Canonical.{shortest}
use Rattle.pb_wire.proofs.Shortest.{shortest_last, shortest_more}

abbrev pub size : ℕ → ℕ
size n = length (shortest n)

pub one_size : (n : ℕ) → n < 128 → size n ≡ 1
one_size n lt = ap length (shortest_last n lt)

more_size : (n : ℕ) → 128 ≤ n → size n ≡ suc (size (n / 128))
more_size n le = ap length (shortest_more n le)

some_within : (k n : ℕ) → n ≤ k → 1 ≤ size n
some_within k n h = elim (cases_lt n 128) [ inl lt ↦ omega (arith, one_size n lt) | inr le ↦ omega (arith, more_size n le) ]

pub some_size : (n : ℕ) → 1 ≤ size n
some_size n = some_within n n (omega arith)

mono_within : (k m n : ℕ) → n ≤ k → m ≤ n → size m ≤ size n
mono_within zero m n h le = let z : m ≡ n = omega arith in subst (λ (x : ℕ). size m ≤ size x) z (omega arith)
mono_within (suc k) m n h le =
    elim (cases_lt m 128) [
      | inl lt ↦ omega (arith, one_size m lt, some_size n)
      | inr big ↦ omega (arith, more_size m big, more_size n (omega arith), mono_within k (m / 128) (n / 128) (omega arith) (omega arith))
    ]

pub mono_size : (m n : ℕ) → m ≤ n → size m ≤ size n
mono_size m n le = mono_within n m n (omega arith) le

-- a group more
wide_size : (n : ℕ) → 0 < n → size (n * 128) ≡ suc (size n)
wide_size n some = more_size (n * 128) (omega arith) ∙ (let q : n * 128 / 128 ≡ n = omega arith in ap (λ k. suc (size k)) q)

-- a sum takes no more than its parts
sum_within : (m n : ℕ) → m ≤ n → size (m + n) ≤ size n + 1
sum_within m n le =
    elim (cases_lt 0 n) [
      | inl some ↦ omega (arith, mono_size (m + n) (n * 128) (omega arith), wide_size n some)
      | inr none ↦ let z : m + n ≡ n = omega arith in omega (arith, ap size z)
    ]

pub sum_size : (m n : ℕ) → size (m + n) ≤ size m + size n
sum_size m n = elim (cases_lt m n) [
  | inl lt ↦ omega (arith, sum_within m n (omega arith), some_size m)
  | inr le ↦ let c : m + n ≡ n + m = omega arith in omega (arith, ap size c, sum_within n m le, some_size n)
]

-- ---- the length of a record of so many bytes whose tag has one byte

abbrev pub room : ℕ → ℕ
room n = 1 + size n + n

pub mono_room : (m n : ℕ) → m ≤ n → room m ≤ room n
mono_room m n le = omega (arith, mono_size m n le)

-- twice the bytes take at most twice the room
pub twice_room : (m n : ℕ) → m ≤ 2 * n → room m ≤ 2 * room n
twice_room m n le = omega (arith, mono_size m (n + n) (omega arith), sum_size n n, twice_size n, some_size n)
  where
    twice_size : (n : ℕ) → size (n + n) ≤ size n + 1
    twice_size n = sum_within n n (omega arith)

-- and so do two bytes more
pub more_room : (m n : ℕ) → m ≤ n + 2 → room m ≤ 2 * room n
more_room m n le =
    elim (cases_lt 0 n) [
      | inl some ↦ omega (arith, mono_size m (n + 2) le, sum_size n 2, one_size 2 (omega arith), some_size n)
      | inr none ↦ omega (arith, mono_size m 2 (omega arith), one_size 2 (omega arith), some_size n)
    ]
