-- The directions of asks, in the order in which they were made.
use Rattle.std.specs.Prelude.{ℕ, ◌≤◌, List, [], ◌∷◌, vec_len, vec_capacity}
use Rattle.std.specs.Global.{Vec}
use Rattle.http_model.specs.declared.types.Direction.{Direction}

pub record HasEight (items : Vec Direction) : Type 0 where
  pub few : vec_len items ≤ 8
  pub room : 8 ≤ vec_capacity items

abbrev pub so_many : ℕ → Direction → List Direction
so_many ℕ.zero d = []
so_many (ℕ.suc n) d = d ∷ so_many n d
