-- Padding and what stands before it.
use Rattle.std.proofs.Common.{arith, ◌≡◌, ℕ, ◌-◌, ◌≤◌, List, ◌++◌, length, take, drop, ap, ◌∙◌, if◌then◌else◌, nat_lt, Some, None, length-append}
use Rattle.std.proofs.lemmas.List.{drop-append-le, take-append-le, take_all, drop_all}
use Rattle.std.proofs.lemmas.Bool.Decides.{nat_tests}
use Rattle.h2_frames.specs.declared.header.Header.{Header}
use Rattle.h2_frames.specs.Payloads.{padding, content_of}

behind : (front rest : List ℕ) → drop (length front) (front ++ rest) ≡ rest
behind front rest =
    drop-append-le (length front) front rest (omega arith) ∙ ap (λ (b : List ℕ). b ++ rest) (drop_all (length front) front (omega arith))

taken : (n m : ℕ) (content : List ℕ) → m ≤ n → (if nat_lt n m then None else Some content) ≡ Some content
taken n m content h = grind (arith, nat_tests)

before : (content pad : List ℕ) → take (length (content ++ pad) - length pad) (content ++ pad) ≡ content
before content pad =
    let all = length-append content pad in
    let n_is : length (content ++ pad) - length pad ≡ length content = omega arith in
    ap (λ (n : ℕ). take n (content ++ pad)) n_is ∙ take-append-le (length content) content pad (omega arith) ∙ take_all (length content) content (omega arith)

pub left_out : (h : Header) (front content pad : List ℕ) → padding h (front ++ (content ++ pad)) ≡ length pad → content_of h (length front) (front ++ (content ++ pad)) ≡ Some content
unfolding content_of
left_out h front content pad e =
    let all = length-append content pad in
    ap (λ (rest : List ℕ). if nat_lt (length rest) (padding h (front ++ (content ++ pad))) then None else Some (take (length rest - padding h (front ++ (content ++ pad))) rest)) (behind front (content ++ pad))
    ∙ ap (λ (n : ℕ). if nat_lt (length (content ++ pad)) n then None else Some (take (length (content ++ pad) - n) (content ++ pad))) e
    ∙ taken (length (content ++ pad)) (length pad) (take (length (content ++ pad) - length pad) (content ++ pad)) (omega arith)
    ∙ ap Some (before content pad)
