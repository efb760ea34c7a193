-- What bytes begin with, case by case.
use Rattle.std.proofs.Common.{arith, ◌≡◌, ℕ, ◌+◌, ◌<◌, ◌≤◌, List, [], ◌++◌, length, take, drop, refl, sym, ◌∙◌, ap, Option, Some, None, ◌⊎◌, inl, inr, length-append}
use Rattle.std.proofs.lemmas.Bool.{cases_lt}
use Rattle.std.proofs.lemmas.Bool.Decides.{nat_tests}
use Rattle.std.specs.Prelude.{slice_index}
use Rattle.h2_frames.specs.Numbers.{u32_at}
use Rattle.grpc_call.specs.declared.fault.CallFault.{CallFault}
use Rattle.grpc_call.specs.Framed.{Unfinished, Refused, Whole, first, first_unless, prefix_fault}
use Rattle.grpc_call.specs.Keeping.{IsParted, IsKept}
use Rattle.grpc_call.proofs.Prefixes.{front, size_front, none_short}

pub first_short : (limit : ℕ) (bytes : List ℕ) → length bytes < 5 → first limit bytes ≡ Unfinished
unfolding first
first_short limit bytes l = grind (arith, nat_tests)

pub first_long : (limit : ℕ) (bytes : List ℕ) → 5 ≤ length bytes
    → first limit bytes ≡ first_unless (prefix_fault limit (slice_index bytes 0) (u32_at bytes 1)) (u32_at bytes 1) bytes
unfolding first
first_long limit bytes l = grind (arith, nat_tests)

-- the same of kept bytes and new ones
pub parted_short : (limit : ℕ) (prefix message bytes : List ℕ) → IsParted prefix message → length prefix + length bytes < 5 → first limit (prefix ++ message ++ bytes) ≡ Unfinished
parted_short limit prefix message bytes parted short = first_short limit (prefix ++ message ++ bytes) (none_short prefix message bytes parted short)

pub parted_long : (limit : ℕ) (prefix message bytes : List ℕ) (fault : Option CallFault) (size : ℕ) → IsParted prefix message → 5 ≤ length prefix + length bytes
    → fault ≡ prefix_fault limit (slice_index (prefix ++ bytes) 0) (u32_at (prefix ++ bytes) 1) → size ≡ u32_at (prefix ++ bytes) 1
    → first limit (prefix ++ message ++ bytes) ≡ first_unless fault size (prefix ++ message ++ bytes)
parted_long limit prefix message bytes fault size parted long f s =
    let n = length-append (prefix ++ message) bytes in
    let m = length-append prefix message in
    let all : List ℕ = prefix ++ message ++ bytes in
    let number : u32_at all 1 ≡ size = size_front prefix message bytes parted long ∙ sym s in
    let flag : slice_index all 0 ≡ slice_index (prefix ++ bytes) 0 = front prefix message bytes parted long 0 (omega arith) in
    let same : prefix_fault limit (slice_index all 0) (u32_at all 1) ≡ fault =
    (λ i. prefix_fault limit (flag i) (size_front prefix message bytes parted long i)) ∙ sym f in
    first_long limit all (omega arith) ∙ (λ i. first_unless (same i) (number i) all)

pub unless_short : (size : ℕ) (bytes : List ℕ) → length bytes < 5 + size → first_unless None size bytes ≡ Unfinished
unless_short size bytes l = grind (arith, nat_tests)

pub unless_whole : (size : ℕ) (bytes : List ℕ) → 5 + size ≤ length bytes → first_unless None size bytes ≡ Whole (take size (drop 5 bytes))
unless_whole size bytes l = grind (arith, nat_tests)

-- how far bytes go
pub data Reach (limit : ℕ) (bytes : List ℕ) : Type 0 where
  within_prefix : length bytes < 5 → Reach limit bytes
  refused : 5 ≤ length bytes → (fault : CallFault) → prefix_fault limit (slice_index bytes 0) (u32_at bytes 1) ≡ Some fault → Reach limit bytes
  within_message : 5 ≤ length bytes → prefix_fault limit (slice_index bytes 0) (u32_at bytes 1) ≡ None → length bytes < 5 + u32_at bytes 1 → Reach limit bytes
  to_the_end : 5 ≤ length bytes → prefix_fault limit (slice_index bytes 0) (u32_at bytes 1) ≡ None → 5 + u32_at bytes 1 ≤ length bytes → Reach limit bytes

pub reach : (limit : ℕ) (bytes : List ℕ) → Reach limit bytes
reach limit bytes = by_prefix (cases_lt (length bytes) 5)
  where
    by_length : 5 ≤ length bytes → prefix_fault limit (slice_index bytes 0) (u32_at bytes 1) ≡ None → (length bytes < 5 + u32_at bytes 1) ⊎ (5 + u32_at bytes 1 ≤ length bytes) → Reach limit bytes
    by_length l f (inl s) = within_message l f s
    by_length l f (inr s) = to_the_end l f s

    by_fault : 5 ≤ length bytes → (o : Option CallFault) → prefix_fault limit (slice_index bytes 0) (u32_at bytes 1) ≡ o → Reach limit bytes
    by_fault l (Some fault) f = refused l fault f
    by_fault l None f = by_length l f (cases_lt (length bytes) (5 + u32_at bytes 1))

    by_prefix : (length bytes < 5) ⊎ (5 ≤ length bytes) → Reach limit bytes
    by_prefix (inl l) = within_prefix l
    by_prefix (inr l) = by_fault l (prefix_fault limit (slice_index bytes 0) (u32_at bytes 1)) refl

pub refused_is : (limit : ℕ) (bytes : List ℕ) (fault : CallFault) → 5 ≤ length bytes → prefix_fault limit (slice_index bytes 0) (u32_at bytes 1) ≡ Some fault → first limit bytes ≡ Refused fault
refused_is limit bytes fault l f = first_long limit bytes l ∙ ap (λ o. first_unless o (u32_at bytes 1) bytes) f

pub whole_is : (limit : ℕ) (bytes : List ℕ) → 5 ≤ length bytes → prefix_fault limit (slice_index bytes 0) (u32_at bytes 1) ≡ None → 5 + u32_at bytes 1 ≤ length bytes
    → first limit bytes ≡ Whole (take (u32_at bytes 1) (drop 5 bytes))
whole_is limit bytes l f s = first_long limit bytes l ∙ ap (λ o. first_unless o (u32_at bytes 1) bytes) f ∙ unless_whole (u32_at bytes 1) bytes s

pub waits_is : (limit : ℕ) (bytes : List ℕ) → 5 ≤ length bytes → prefix_fault limit (slice_index bytes 0) (u32_at bytes 1) ≡ None → length bytes < 5 + u32_at bytes 1
    → first limit bytes ≡ Unfinished
waits_is limit bytes l f s = first_long limit bytes l ∙ ap (λ o. first_unless o (u32_at bytes 1) bytes) f ∙ unless_short (u32_at bytes 1) bytes s

-- a length without a fault is within the limit
within_limit : (limit flag size : ℕ) → prefix_fault limit flag size ≡ None → size ≤ limit
within_limit limit flag size e = grind (arith, nat_tests)

-- less than a whole message is kept
pub unfinished_short : (limit : ℕ) (bytes : List ℕ) → first limit bytes ≡ Unfinished → length bytes < limit + 5
unfinished_short limit bytes e = by (reach limit bytes)
  where
    by : Reach limit bytes → length bytes < limit + 5
    by (within_prefix l) = omega arith
    by (refused l fault f) = let w = refused_is limit bytes fault l f in absurd cc
    by (within_message l f s) = let w = within_limit limit (slice_index bytes 0) (u32_at bytes 1) f in omega arith
    by (to_the_end l f s) = let w = whole_is limit bytes l f s in absurd cc

-- nothing is kept
pub nothing_kept : (limit : ℕ) (prefix message : List ℕ) → prefix ≡ [] → message ≡ [] → IsKept limit prefix message
nothing_kept limit prefix message e f =
    let n : length prefix ≡ 0 = ap length e in
    record { parted = record { few = omega arith; none = λ _. f }; waits = first_short limit (prefix ++ message) (rw (e, f) (omega arith)) }

-- a whole message, and what its prefix says
pub record IsWhole (limit : ℕ) (bytes message : List ℕ) : Type 0 where
  pub long : 5 ≤ length bytes
  pub right : prefix_fault limit (slice_index bytes 0) (u32_at bytes 1) ≡ None
  pub there : 5 + u32_at bytes 1 ≤ length bytes
  pub is : message ≡ take (u32_at bytes 1) (drop 5 bytes)

pub whole_says : (limit : ℕ) (bytes message : List ℕ) → first limit bytes ≡ Whole message → IsWhole limit bytes message
whole_says limit bytes message e = by (reach limit bytes)
  where
    by : Reach limit bytes → IsWhole limit bytes message
    by (within_prefix l) = let u = first_short limit bytes l in absurd cc
    by (refused l fault f) = let u = refused_is limit bytes fault l f in absurd cc
    by (within_message l f s) = let u = waits_is limit bytes l f s in absurd cc
    by (to_the_end l f s) = let u = whole_is limit bytes l f s in record { long = l; right = f; there = s; is = cc }
