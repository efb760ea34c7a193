-- What is true of the gaps between opened numbers.
use Rattle.std.specs.Prelude.{ℕ, ◌<◌, ◌≤◌, List, All}
use Rattle.std.specs.List.{AllPairs}
use Rattle.h2_model.specs.declared.gap.Gap.{Gap}

-- each ends where or behind where it begins, and before the next begins
pub record Ascends (gaps : List Gap) : Type 0 where
  pub order : AllPairs (λ g h. g.last < h.first) gaps
  pub each : All (λ g. g.first ≤ g.last) gaps

-- and all of them end below the least number that can be opened
pub record AreGaps (gaps : List Gap) (next : ℕ) : Type 0 where
  pub ascend : Ascends gaps
  pub below : All (λ g. g.last < next) gaps
