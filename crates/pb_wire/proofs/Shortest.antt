-- The shortest spelling of a number, group by group.
use Rattle.std.proofs.Common.{◌≡◌, ℕ, zero, suc, ◌+◌, ◌/◌, ◌%◌, ◌<◌, ◌≤◌, List, [], ◌∷◌, refl, ap, sym, ◌∙◌, arith, lt-ltb, le-ltb, ◌⊎◌, inl, inr}
use Rattle.pb_wire.specs.Canonical.{groups, shortest}
use Rattle.std.proofs.lemmas.Bool.{cases_lt}

pub groups_last : (k n : ℕ) → n < 128 → groups k n ≡ n ∷ []
unfolding groups
groups_last zero n small = refl
groups_last (suc k) n small = rw (lt-ltb n 128 small, groups) refl

pub groups_step : (k n : ℕ) → 128 ≤ n → groups (suc k) n ≡ (n % 128 + 128) ∷ groups k (n / 128)
unfolding groups
groups_step k n large = rw (le-ltb n 128 large, groups) refl

pub groups_same : (k j n : ℕ) → n ≤ k → n ≤ j → groups k n ≡ groups j n
groups_same zero j n a b = groups_last zero n (omega arith) ∙ sym (groups_last j n (omega arith))
groups_same (suc k) zero n a b = groups_last (suc k) n (omega arith) ∙ sym (groups_last zero n (omega arith))
groups_same (suc k) (suc j) n a b = elim (cases_lt n 128) [
  | inl small ↦ groups_last (suc k) n small ∙ sym (groups_last (suc j) n small)
  | inr large ↦ groups_step k n large ∙ ap (λ (rest : List ℕ). (n % 128 + 128) ∷ rest) (groups_same k j (n / 128) (omega arith) (omega arith)) ∙ sym (groups_step j n large)
]

pub shortest_last : (n : ℕ) → n < 128 → shortest n ≡ n ∷ []
unfolding shortest
shortest_last n small = groups_last n n small

pub shortest_more : (n : ℕ) → 128 ≤ n → shortest n ≡ (n % 128 + 128) ∷ shortest (n / 128)
unfolding shortest
shortest_more zero large = absurd (omega arith)
shortest_more (suc n) large = groups_step n (suc n) large ∙ ap (λ (rest : List ℕ). (suc n % 128 + 128) ∷ rest) (groups_same n (suc n / 128) (suc n / 128) (omega arith) (omega arith))
