-- The pieces of a body that wait to go out, before the bytes that pass.
use Rattle.std.specs.Prelude.{ℕ, ◌≡◌, ◌⊎◌, ◌≤◌, List, [], ◌∷◌, ◌++◌, length, flat_map, Option, Some, None, if◌then◌else◌, ◌==◌}
use Rattle.http_model.specs.declared.types.Direction.{Direction}
use Rattle.filter_model.specs.Course.{Course, answered_pieces, replacement}

abbrev pub pieces_by : Option (List ℕ) → List (List ℕ) → List (List ℕ)
pieces_by (Some body) pieces = body ∷ []
pieces_by None pieces = pieces

-- the body that takes the place of the whole one, or the answered pieces
abbrev pub pieces_of : Direction → Course → List (List ℕ)
pieces_of d w = pieces_by (replacement d w) (answered_pieces w)

-- the lengths of those that have bytes
abbrev pub lengths_of : List (List ℕ) → List ℕ
lengths_of [] = []
lengths_of ([] ∷ ps) = lengths_of ps
lengths_of ((b ∷ p) ∷ ps) = length (b ∷ p) ∷ lengths_of ps

-- each piece is handed out whole, and none but empty ones is left once bytes that pass were handed out
pub record OfPieces (x : List ℕ) (pieces : List (List ℕ)) (handed : ℕ) : Type 0 where
  pub gone : List (List ℕ)
  pub left : List (List ℕ)
  pub whole : pieces ≡ gone ++ left
  pub lengths : x ≡ lengths_of left
  pub least : length (flat_map (λ p. p) gone) ≤ handed
  pub ends : (x ≡ []) ⊎ (handed ≡ length (flat_map (λ p. p) gone))

-- the length of one that has bytes
abbrev pub unless_none : ℕ → List ℕ
unless_none n = if n == 0 then [] else n ∷ []
