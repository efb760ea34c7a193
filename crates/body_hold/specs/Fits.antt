-- What is true of a hold's fields.
use Rattle.std.specs.Prelude.{ℕ, ◌≡◌, ◌≤◌, length, vec_len, vec_capacity}
use Rattle.std.specs.Global.{Vec}
use Rattle.px_bytes.specs.Queue.{Queue}
use Rattle.body_hold.specs.Held.{hand_room, lent_room, out_room, total}

pub record IsReserved (limit answer : ℕ) (hand lent : Queue) (lengths : Vec ℕ) (out : Queue) : Type 0 where
  pub hand_reserved : hand.limit ≡ hand_room limit
  pub lent_reserved : lent.limit ≡ lent_room limit
  pub lengths_reserved : 4 ≤ vec_capacity lengths
  pub out_reserved : out.limit ≡ out_room limit answer
  pub few : vec_len lengths ≤ 4
  pub whole : total lengths.items ≡ length lent.bytes
