-- A message that ends with new bytes, behind kept ones.
use Rattle.std.proofs.Common.{arith, ◌≡◌, ℕ, ◌+◌, ◌-◌, ◌^◌, ◌<◌, ◌≤◌, true, not, ◌==◌, List, [], ◌∷◌, ◌++◌, length, take, drop, refl, sym, ◌∙◌, ap, ◌⊎◌, inl, inr, length-append, length-drop}
use Rattle.std.proofs.lemmas.Bool.{cases_lt}
use Rattle.std.proofs.lemmas.Bool.Decides.{nat_tests}
use Rattle.std.proofs.lemmas.List.{drop-take, length-take-le}
use Rattle.std.proofs.Math.ListN.{get_or-append}
use Rattle.std.proofs.Math.Seq.{take-append-add}
use Rattle.std.specs.Prelude.{slice_index}
use Rattle.h2_frames.specs.Numbers.{u32_at}
use Rattle.grpc_call.specs.Framed.{Unfinished, Whole, first, prefix_fault}
use Rattle.grpc_call.specs.Blocks.{is_some_byte}
use Rattle.grpc_call.specs.Keeping.{IsParted, IsKept}
use Rattle.grpc_call.proofs.First.{IsWhole, whole_says, whole_is, unfinished_short}

-- a prefix stays as it is where bytes come behind it
pub size_stays : (xs ys : List ℕ) → 5 ≤ length xs → u32_at (xs ++ ys) 1 ≡ u32_at xs 1
size_stays xs ys l =
    rw (get_or-append xs ys 0 1 (omega arith), get_or-append xs ys 0 2 (omega arith), get_or-append xs ys 0 3 (omega arith), get_or-append xs ys 0 4 (omega arith)) refl

pub fault_stays : (limit : ℕ) (xs ys : List ℕ) → 5 ≤ length xs
    → prefix_fault limit (slice_index (xs ++ ys) 0) (u32_at (xs ++ ys) 1) ≡ prefix_fault limit (slice_index xs 0) (u32_at xs 1)
fault_stays limit xs ys l = λ i. prefix_fault limit (get_or-append xs ys 0 0 (omega arith) i) (size_stays xs ys l i)

-- a message that ends with new bytes doesn't end before them
pub not_before : (limit : ℕ) (rest bytes message : List ℕ) → first limit rest ≡ Unfinished → first limit (rest ++ bytes) ≡ Whole message → length rest < 5 + u32_at (rest ++ bytes) 1
not_before limit rest bytes message u w = by (cases_lt (length rest) (5 + u32_at (rest ++ bytes) 1))
  where
    says : IsWhole limit (rest ++ bytes) message
    says = whole_says limit (rest ++ bytes) message w

    by : (length rest < 5 + u32_at (rest ++ bytes) 1) ⊎ (5 + u32_at (rest ++ bytes) 1 ≤ length rest) → length rest < 5 + u32_at (rest ++ bytes) 1
    by (inl l) = l
    by (inr l) =
        let long : 5 ≤ length rest = omega arith in
        let size = size_stays rest bytes long in
        let whole = whole_is limit rest long (sym (fault_stays limit rest bytes long) ∙ says.right) (omega arith) in
        absurd cc

-- the size is that of the prefix
pub size_is : (limit size : ℕ) (all : List ℕ) → first limit all ≡ Whole (take size (drop 5 all)) → 5 + size ≤ length all → size ≡ u32_at all 1
size_is limit size all w l =
    let says = whole_says limit all (take size (drop 5 all)) w in
    let there = says.there in
    let n = length-drop 5 all in
    sym (length-take-le size (drop 5 all) (omega arith)) ∙ ap length says.is ∙ length-take-le (u32_at all 1) (drop 5 all) (omega arith)

pub message_is : (size : ℕ) (rest bytes : List ℕ) → length rest ≤ 5 + size → drop 5 (rest ++ take (5 + size - length rest) bytes) ≡ take size (drop 5 (rest ++ bytes))
message_is size rest bytes l =
    let used : length rest + (5 + size - length rest) ≡ 5 + size = omega arith in
    ap (drop 5) (sym (take-append-add rest bytes (5 + size - length rest))) ∙ ap (λ n. drop 5 (take n (rest ++ bytes))) used ∙ drop-take 5 size (rest ++ bytes)

-- less than the limit is kept of a message
pub message_short : (limit : ℕ) (prefix message : List ℕ) → IsKept limit prefix message → limit < 2 ^ 32 → length message < 2 ^ 32
message_short limit prefix message kept small = by (cases_lt (length prefix) 5)
  where
    by : (length prefix < 5) ⊎ (5 ≤ length prefix) → length message < 2 ^ 32
    by (inl short) = let none = ap length (kept.parted.none short) in omega arith
    by (inr whole) =
        let all = length-append prefix message in
        let few = unfinished_short limit (prefix ++ message) kept.waits in omega arith

-- whether a list is empty, by its length
pub tells_some : (xs : List ℕ) → not (length xs == 0) ≡ is_some_byte xs
tells_some [] = refl
tells_some (x ∷ xs) = grind (arith, nat_tests)

pub is_within : (prefix message : List ℕ) → IsParted prefix message → is_some_byte (prefix ++ message) ≡ is_some_byte prefix
is_within [] message parted = ap is_some_byte (parted.none (omega arith))
is_within (x ∷ xs) message parted = refl

pub none_there : (xs : List ℕ) → true ≡ (length xs == 0) → xs ≡ []
none_there [] e = refl
none_there (x ∷ xs) e = absurd (grind (arith, nat_tests, e))

-- one call that ends a message
pub record Ended (limit size used : ℕ) (prefix message bytes : List ℕ) : Type 0 where
  pub before : length message ≤ 5 + size - length prefix
  pub enough : used ≤ length bytes
  pub whole : first limit (prefix ++ message ++ bytes) ≡ Whole (drop 5 (prefix ++ message ++ take used bytes))
  pub used_is : used ≡ 5 + length (drop 5 (prefix ++ message ++ take used bytes)) - length (prefix ++ message)

pub ended : (limit size used : ℕ) (prefix message bytes : List ℕ) → IsKept limit prefix message
    → first limit (prefix ++ message ++ bytes) ≡ Whole (take size (drop 5 (prefix ++ message ++ bytes))) → 5 + size ≤ length (prefix ++ message ++ bytes)
    → used ≡ 5 + size - length prefix - length message → Ended limit size used prefix message bytes
ended limit size used prefix message bytes kept w l u =
    let all = length-append (prefix ++ message) bytes in
    let some = length-append prefix message in
    let number = size_is limit size (prefix ++ message ++ bytes) w l in
    let not_yet = not_before limit (prefix ++ message) bytes _ kept.waits w in
    let rest : used ≡ 5 + size - length (prefix ++ message) = omega arith in
    let is : drop 5 (prefix ++ message ++ take used bytes) ≡ take size (drop 5 (prefix ++ message ++ bytes)) =
    ap (λ n. drop 5 (prefix ++ message ++ take n bytes)) rest ∙ message_is size (prefix ++ message) bytes (omega arith) in
    let behind = length-drop 5 (prefix ++ message ++ bytes) in
    let len : length (drop 5 (prefix ++ message ++ take used bytes)) ≡ size = ap length is ∙ length-take-le size (drop 5 (prefix ++ message ++ bytes)) (omega arith) in
    record { before = omega arith; enough = omega arith; whole = w ∙ ap Whole (sym is); used_is = rest ∙ ap (λ n. 5 + n - length (prefix ++ message)) (sym len) }
