-- The prefix of a message that is kept in two parts.
use Rattle.std.proofs.Common.{arith, ◌≡◌, ℕ, ◌+◌, ◌<◌, ◌≤◌, List, [], ◌++◌, length, get_or, refl, sym, ◌∙◌, ap, ◌⊎◌, inl, inr, length-append, append-nil, append_assoc, drop, ◌-◌}
use Rattle.std.proofs.lemmas.Bool.{cases_lt}
use Rattle.std.proofs.Math.ListN.{get_or-append}
use Rattle.std.proofs.Math.Seq.{drop-append-add}
use Rattle.h2_frames.specs.Numbers.{u32_at}
use Rattle.grpc_call.specs.Keeping.{IsParted}

-- of the first five bytes, those of a message that isn't there yet are none
pub front : (prefix message bytes : List ℕ) → IsParted prefix message → 5 ≤ length prefix + length bytes → (i : ℕ) → i < 5
    → get_or (prefix ++ message ++ bytes) i 0 ≡ get_or (prefix ++ bytes) i 0
front prefix message bytes parted long i l = by (cases_lt (length prefix) 5)
  where
    by : (length prefix < 5) ⊎ (5 ≤ length prefix) → get_or (prefix ++ message ++ bytes) i 0 ≡ get_or (prefix ++ bytes) i 0
    by (inl short) = ap (λ (b : List ℕ). get_or (b ++ bytes) i 0) (ap (λ (m : List ℕ). prefix ++ m) (parted.none short) ∙ append-nil prefix)
    by (inr whole) =
        let n = length-append prefix message in
        get_or-append (prefix ++ message) bytes 0 i (omega arith) ∙ get_or-append prefix message 0 i (omega arith) ∙ sym (get_or-append prefix bytes 0 i (omega arith))

pub size_front : (prefix message bytes : List ℕ) → IsParted prefix message → 5 ≤ length prefix + length bytes
    → u32_at (prefix ++ message ++ bytes) 1 ≡ u32_at (prefix ++ bytes) 1
size_front prefix message bytes parted long =
    let at = front prefix message bytes parted long in
    rw (at 1 (omega arith), at 2 (omega arith), at 3 (omega arith), at 4 (omega arith)) refl

pub none_short : (prefix message bytes : List ℕ) → IsParted prefix message → length prefix + length bytes < 5 → length (prefix ++ message ++ bytes) < 5
none_short prefix message bytes parted short =
    let none : message ≡ [] = parted.none (omega arith) in
    let n = length-append (prefix ++ message) bytes in
    let m = length-append prefix message in
    let z : length message ≡ 0 = ap length none in
    omega arith

-- behind the prefix stands the message
pub content_is : (prefix message last : List ℕ) → IsParted prefix message → drop 5 (prefix ++ message ++ last) ≡ message ++ drop (5 - length prefix) last
content_is prefix message last parted = by (cases_lt (length prefix) 5)
  where
    behind : (prefix rest : List ℕ) → length prefix ≤ 5 → drop 5 (prefix ++ rest) ≡ drop (5 - length prefix) rest
    behind prefix rest l = ap (λ n. drop n (prefix ++ rest)) (five l) ∙ drop-append-add prefix rest (5 - length prefix)
      where
        five : length prefix ≤ 5 → 5 ≡ length prefix + (5 - length prefix)
        five l = omega arith

    by : (length prefix < 5) ⊎ (5 ≤ length prefix) → drop 5 (prefix ++ message ++ last) ≡ message ++ drop (5 - length prefix) last
    by (inl short) =
        let none : message ≡ [] = parted.none short in
        ap (λ (b : List ℕ). drop 5 (b ++ last)) (ap (λ (m : List ℕ). prefix ++ m) none ∙ append-nil prefix) ∙ behind prefix last parted.few
        ∙ ap (λ (m : List ℕ). m ++ drop (5 - length prefix) last) (sym none)
    by (inr whole) =
        let few = parted.few in
        let zero : 5 - length prefix ≡ 0 = omega arith in
        ap (λ (b : List ℕ). drop 5 b) (append_assoc prefix message last) ∙ behind prefix (message ++ last) parted.few ∙ ap (λ n. drop n (message ++ last)) zero
        ∙ ap (λ n. message ++ drop n last) (sym zero)
