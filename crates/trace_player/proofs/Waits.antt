-- The bytes that wait stand behind those that were taken away.
use Rattle.std.proofs.Common.{refl, sym, ◌∙◌, arith, inl, inr}
use Rattle.std.proofs.lemmas.Bool.Decides.{eqb_tells}
use Rattle.std.proofs.lemmas.List.{length-drop}
use Rattle.std.specs.Prelude.{ℕ, ◌≡◌, ◌-◌, ◌≤◌, true, false, List, [], ◌∷◌, length, drop, ◌==◌}
use Rattle.http_model.specs.Bytes.{is_empty}

some_there : (xs : List ℕ) → 1 ≤ length xs → is_empty xs ≡ false
some_there [] l = absurd (omega (arith, l))
some_there (x ∷ xs) l = refl

none_there : (xs : List ℕ) → length xs ≡ 0 → is_empty xs ≡ true
none_there [] l = refl
none_there (x ∷ xs) l = absurd (omega (arith, l))

pub none_left : (start n : ℕ) (bytes : List ℕ) → n ≡ length bytes → start ≤ n → (start == n) ≡ is_empty (drop start bytes)
none_left start n bytes e l =
    let k : length (drop start bytes) ≡ length bytes - start = length-drop start bytes in
    elim (eqb_tells start n) [
      | inl same ↦ same.0 ∙ sym (none_there (drop start bytes) (omega (arith, e, same.1, k)))
      | inr less ↦ less.0 ∙ sym (some_there (drop start bytes) (omega (arith, e, l, k, less.1)))
    ]
