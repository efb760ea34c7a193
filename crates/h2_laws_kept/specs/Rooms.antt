-- Room that is kept so that ends, resets and streams of a client take no memory.
use Rattle.std.specs.Prelude.{ℕ, ◌+◌, ◌*◌, ◌≡◌, ◌≤◌, true, length}
use Rattle.h2_laws_log.specs.Rooms.{credits, closings_waiting, closings_held}
use Rattle.h2_laws_kept.specs.Kept.{Kept}

pub record IsRoomy (k : Kept) : Type 0 where
  -- for those that calls may hand over for the live streams
  pub queue : credits k.state.streams ≤ k.room
  pub held : k.client ≡ true → credits k.state.streams ≤ k.held_room
  -- for those of all the streams that a client may keep
  pub reserve : k.client ≡ true → 2 * k.streams ≤ k.room + closings_waiting k.state.waiting
  pub held_reserve : k.client ≡ true → 2 * k.streams ≤ k.held_room + closings_held k.state.held
  pub table : k.client ≡ true → k.streams ≤ length k.state.streams + k.table_room

-- no capacity was lost
pub record KeepsCapacity (k l : Kept) : Type 0 where
  pub queue : k.room + length k.state.waiting ≤ l.room + length l.state.waiting
  pub held : k.held_room + length k.state.held ≤ l.held_room + length l.state.held
  pub table : k.table_room + length k.state.streams ≤ l.table_room + length l.state.streams

-- so many frames fit beside those that may still come without memory
pub record HasSpare (n : ℕ) (k : Kept) : Type 0 where
  pub queue : 2 * (k.streams + length k.state.streams) + n ≤ k.room
  pub held : k.client ≡ true → 2 * (k.streams + length k.state.streams) + n ≤ k.held_room
