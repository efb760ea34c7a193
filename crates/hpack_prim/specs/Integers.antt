-- Integers of HPACK: in the last bits of a byte, or behind them in groups of seven bits.
use Rattle.std.specs.Prelude.{ℕ, zero, suc, ◌≡◌, ◌+◌, ◌-◌, ◌*◌, ◌/◌, ◌%◌, ◌^◌, ◌<◌, ◌≤◌, nat_lt, List, [], ◌∷◌, ◌++◌, length, Result, Ok, Err, if◌then◌else◌}
use Rattle.hpack_prim.specs.declared.fault.PrimFault.{PrimFault}
use Rattle.hpack_prim.specs.declared.fault.PrimFault.TheVariants.{Truncated, TooLarge}

-- Groups, least first: each but the last has its high bit set.
abbrev pub IsGroups : List ℕ → ℕ → Type 0
IsGroups [] n = ⊥
IsGroups (b ∷ []) n = (b < 128) × (n ≡ b)
IsGroups (b ∷ c ∷ bs) n = (128 ≤ b) × (b < 256) × (high : ℕ) × (n + 128 ≡ b + 128 * high) × IsGroups (c ∷ bs) high

-- The bytes spell n with a prefix of so many bits.
abbrev pub IsInt : ℕ → List ℕ → ℕ → Type 0
IsInt prefix [] n = ⊥
IsInt prefix (b ∷ []) n = (b % 2 ^ prefix + 1 < 2 ^ prefix) × (n ≡ b % 2 ^ prefix)
IsInt prefix (b ∷ c ∷ bs) n = (b % 2 ^ prefix + 1 ≡ 2 ^ prefix) × (length (c ∷ bs) ≤ 5) × (n < 2 ^ 32) × (more : ℕ) × (n + 1 ≡ 2 ^ prefix + more) × IsGroups (c ∷ bs) more

-- What the groups at a place add, of which so many may come, the next of this weight, and the place behind them.
unfoldable pub groups_at : ℕ → ℕ → ℕ → ℕ → List ℕ → Result (ℕ × ℕ) PrimFault
groups_at left value weight at [] = Err (Truncated at)
groups_at zero value weight at (b ∷ bs) = Err (TooLarge at)
groups_at (suc left) value weight at (b ∷ bs) =
    let sum = value + weight * (b % 128) in
    if nat_lt sum (2 ^ 32) then (if nat_lt b 128 then Ok (sum, at + 1) else groups_at left sum (weight * 128) (at + 1) bs) else Err (TooLarge at)

-- the integer at a place, and the place behind it
unfoldable pub int_at : ℕ → ℕ → List ℕ → Result (ℕ × ℕ) PrimFault
int_at prefix at [] = Err (Truncated at)
int_at prefix at (b ∷ bs) =
    if nat_lt (b % 2 ^ prefix + 1) (2 ^ prefix) then Ok (b % 2 ^ prefix, at + 1) else groups_at 5 (2 ^ prefix - 1) 1 (at + 1) bs

-- The shortest groups of a number. The first number is a bound on the groups after the first: the number itself is one.
unfoldable pub groups : ℕ → ℕ → List ℕ
groups zero n = n ∷ []
groups (suc more) n = if nat_lt n 128 then n ∷ [] else (n % 128 + 128) ∷ groups more (n / 128)

unfoldable pub shortest : ℕ → List ℕ
shortest n = groups n n

-- the shortest spelling of a number with a prefix of so many bits, behind the high bits of the first byte
unfoldable pub int : ℕ → ℕ → ℕ → List ℕ
int prefix first n =
    if nat_lt (n + 1) (2 ^ prefix) then (first + n) ∷ [] else (first + (2 ^ prefix - 1)) ∷ shortest (n - (2 ^ prefix - 1))

-- each is a byte
abbrev pub AreBytes : List ℕ → Type 0
AreBytes [] = Unit {0}
AreBytes (b ∷ bs) = (b < 256) × AreBytes bs

-- the bytes begin with a spelling of n, and next is the place behind it
pub record Spelled (prefix at : ℕ) (bytes : List ℕ) (n next : ℕ) : Type 0 where
  pub spelling : List ℕ
  pub rest : List ℕ
  pub whole : bytes ≡ spelling ++ rest
  pub int : IsInt prefix spelling n
  pub place : next ≡ at + length spelling
