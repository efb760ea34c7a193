-- Fronts of texts.
use Rattle.std.specs.Prelude.{ℕ, List, [], ◌∷◌, Option, Some, None, ◌==◌, if◌then◌else◌}

-- what follows a text at the front
abbrev pub stripped : List ℕ → List ℕ → Option (List ℕ)
stripped [] bytes = Some bytes
stripped (p ∷ ps) [] = None
stripped (p ∷ ps) (b ∷ bs) = if p == b then stripped ps bs else None
