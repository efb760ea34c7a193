-- A message that is written is read back.
use Rattle.std.proofs.Common.{arith, ◌≡◌, ℕ, ◌+◌, ◌<◌, ◌≤◌, ◌^◌, List, ◌++◌, length, take, ◌∙◌, ap, None, length-append}
use Rattle.std.proofs.lemmas.List.{take-append-le, take_all}
use Rattle.std.proofs.lemmas.Bool.Decides.{nat_tests}
use Rattle.std.proofs.lemmas.Nat.{from_be_bytes-to_be_bytes_4}
use Rattle.h2_frames.specs.Numbers.{u32_at}
use Rattle.grpc_call.specs.Framed.{Whole, first, prefix_fault}
use Rattle.grpc_call.specs.Written.{framed_message}
use Rattle.grpc_call.proofs.First.{whole_is}

no_fault : (limit size : ℕ) → size ≤ limit → prefix_fault limit 0 size ≡ None
no_fault limit size l = grind (arith, nat_tests)

pub written : (limit : ℕ) (message more : List ℕ) → length message ≤ limit → length message < 2 ^ 32 → first limit (framed_message message ++ more) ≡ Whole message
written limit message more l s =
    let size : u32_at (framed_message message ++ more) 1 ≡ length message = from_be_bytes-to_be_bytes_4 (length message) s in
    let len : length (framed_message message ++ more) ≡ 5 + (length message + length more) = let all = length-append message more in omega arith in
    let right : prefix_fault limit 0 (u32_at (framed_message message ++ more) 1) ≡ None = ap (prefix_fault limit 0) size ∙ no_fault limit (length message) l in
    whole_is limit (framed_message message ++ more) (omega arith) right (omega arith)
    ∙ ap (λ n. Whole (take n (message ++ more))) size ∙ ap Whole (take-append-le (length message) message more (omega arith) ∙ take_all (length message) message (omega arith))
