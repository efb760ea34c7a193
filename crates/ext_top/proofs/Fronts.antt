-- Fronts of texts.
use Rattle.std.proofs.Common.{◌≡◌, ℕ, List, [], ◌∷◌, ◌++◌, Some, None, refl, ap, sym, ◌∙◌, eq-eqb, inl, inr}
use Rattle.std.proofs.lemmas.Bool.Decides.{eqb_tells}
use Rattle.ext_top.specs.Scan.{stripped}

-- what follows a text that stands at the front
pub stripped_some : (text rest : List ℕ) → stripped text (text ++ rest) ≡ Some rest
stripped_some [] rest = refl
stripped_some (p ∷ ps) rest = rw (eq-eqb p p refl) (stripped_some ps rest)

-- a text that doesn't
pub stripped_none : (text bytes : List ℕ) → ((rest : List ℕ) → bytes ≡ text ++ rest → ⊥) → stripped text bytes ≡ None
stripped_none [] bytes h = absurd (h bytes refl)
stripped_none (p ∷ ps) [] h = refl
stripped_none (p ∷ ps) (b ∷ bs) h = elim (eqb_tells p b) [
  | inl same ↦ rw same.0 (stripped_none ps bs (λ rest e. h rest (ap (λ (l : List ℕ). b ∷ l) e ∙ ap (λ (x : ℕ). x ∷ (ps ++ rest)) (sym same.1))))
  | inr other ↦ rw other.0 refl
]
