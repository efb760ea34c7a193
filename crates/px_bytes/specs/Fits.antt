-- What is true of a queue's fields.
use Rattle.std.specs.Prelude.{ℕ, ◌+◌, ◌*◌, ◌<◌, ◌≤◌, ◌^◌, All, vec_len, vec_capacity}
use Rattle.std.specs.Global.{Vec}

-- The bytes from start on are at most limit, and the room is for twice as many.
pub record Fits (limit start : ℕ) (items : Vec ℕ) : Type 0 where
  pub number : limit < 2 ^ 32
  pub begins : start ≤ vec_len items
  pub few : vec_len items ≤ start + limit
  pub short : vec_len items ≤ limit * 2
  pub reserved : limit * 2 ≤ vec_capacity items
  pub range : All (λ x. x < 256) items.items
