-- The asks of the body among those that are out.
use Rattle.std.proofs.Common.{◌∙◌, ap, arith, ◌≡◌, ◌+◌, ◌<◌, ℕ, Bool, true, false, List, [], ◌∷◌, length, take, slice_index_or, length-append}
use Rattle.std.specs.Prelude.{filter, cond, min, ◌≤◌}
use Rattle.std.proofs.lemmas.List.{take_more, length-take}
use Rattle.std.proofs.lemmas.List.Elements.{filter-append}
use Rattle.half_machine.specs.Marks.{is_of_body}
use Rattle.half_machine.specs.declared.marks.Mark.{Mark}

pub one_more : (marks : List Mark) (i : ℕ) (d : Mark) → i < length marks → is_of_body (slice_index_or marks i d) ≡ true
    → length (filter is_of_body (take (i + 1) marks)) ≡ length (filter is_of_body (take i marks)) + 1
one_more marks i d h e =
    ap (λ l. length (filter is_of_body l)) (take_more marks i d h)
    ∙ ap length (filter-append is_of_body (take i marks) (slice_index_or marks i d ∷ []))
    ∙ length-append (filter is_of_body (take i marks)) (filter is_of_body (slice_index_or marks i d ∷ []))
    ∙ ap (λ b. length (filter is_of_body (take i marks)) + length (cond b (slice_index_or marks i d ∷ []) [])) e

pub none_more : (marks : List Mark) (i : ℕ) (d : Mark) → i < length marks → is_of_body (slice_index_or marks i d) ≡ false
    → length (filter is_of_body (take (i + 1) marks)) ≡ length (filter is_of_body (take i marks))
none_more marks i d h e =
    ap (λ l. length (filter is_of_body l)) (take_more marks i d h)
    ∙ ap length (filter-append is_of_body (take i marks) (slice_index_or marks i d ∷ []))
    ∙ length-append (filter is_of_body (take i marks)) (filter is_of_body (slice_index_or marks i d ∷ []))
    ∙ ap (λ b. length (filter is_of_body (take i marks)) + length (cond b (slice_index_or marks i d ∷ []) [])) e
    ∙ plus_none (length (filter is_of_body (take i marks)))
  where
    plus_none : (n : ℕ) → n + 0 ≡ n
    plus_none n = omega arith

few_of : (marks : List Mark) → length (filter is_of_body marks) ≤ length marks
few_of [] = omega arith
few_of (m ∷ marks) = by (is_of_body m) (few_of marks)
  where
    by : (b : Bool) → length (filter is_of_body marks) ≤ length marks → length (cond b (m ∷ filter is_of_body marks) (filter is_of_body marks)) ≤ length (m ∷ marks)
    by true e = omega arith
    by false e = omega arith

pub few : (marks : List Mark) (k : ℕ) → length (filter is_of_body (take k marks)) ≤ k
few marks k =
    let e : length (filter is_of_body (take k marks)) ≤ length (take k marks) = few_of (take k marks) in
    let l : length (take k marks) ≡ min k (length marks) = length-take k marks in
    omega arith
