-- Which numbers were opened: all odd ones below the next, but for gaps.
use Rattle.std.specs.Prelude.{ℕ, ◌+◌, ◌-◌, ◌%◌, Bool, not, ◌&&◌, List, [], ◌∷◌, ◌++◌, if◌then◌else◌, ◌==◌, nat_lt, nat_le}
use Rattle.std.specs.List.{list_any}
use Rattle.h2_model.specs.declared.gap.Gap.{Gap}

pub record Numbers : Type 0 where
  pub next : ℕ  -- the least number that can be opened
  pub gaps : List Gap

abbrev pub is_within : ℕ → Gap → Bool
is_within id gap = nat_le gap.first id && nat_le id gap.last

abbrev pub has : ℕ → Numbers → Bool
has id n = (id % 2 == 1) && nat_lt id n.next && not (list_any (is_within id) n.gaps)

-- odd, and above all that were opened
abbrev pub may_have : ℕ → Numbers → Bool
may_have id n = (id % 2 == 1) && nat_le n.next id

-- the greatest one, or 0
abbrev pub last_of : Numbers → ℕ
last_of n = if n.next == 1 then 0 else n.next - 2

abbrev pub gaps_before : ℕ → Numbers → List Gap
gaps_before id n = if nat_lt n.next id then n.gaps ++ record { first = n.next; last = id - 2 } ∷ [] else n.gaps

abbrev pub with_number : ℕ → Numbers → Numbers
with_number id n = record { next = id + 2; gaps = gaps_before id n }
