-- What becomes of a live stream by what happens to it.
use Rattle.std.specs.Prelude.{zero, suc, ◌≡◌, ◌+◌, ◌<◌, ◌^◌, ◌&&◌, Option, Some, None, pos, negsuc, ◌+ℤ◌, ◌-ℤ◌, ◌≤ℤ◌}
use Rattle.h2_model.specs.declared.stream.Stream.{Stream}
use Rattle.h2_model.specs.Moves.{with_data, with_end, with_increment, with_sent, with_block_sent, with_update, with_room}
use Rattle.h2_streams.specs.Tables.{HasCreditInRange}
use Rattle.h2_streams.specs.declared.changes.Change.{Change}
use Rattle.h2_streams.specs.declared.changes.Change.TheVariants.{DataCame, BlockCame, HeadCame, IncrementCame, DataSent, BlockSent, UpdateOwed, UpdateGiven, Reset}

unfoldable pub changed : Change → Stream → Option Stream
changed (DataCame last size) t = with_data last size t
changed (BlockCame last) t = with_end last t
changed (HeadCame interim) t = Some (record t { interim = interim && t.interim })
changed (IncrementCame n) t = with_increment n t
changed (DataSent last size) t = with_sent last size t
changed (BlockSent last) t = with_block_sent last t
changed (UpdateOwed n) t = with_update n t
changed (UpdateGiven n) t = with_room n t
changed Reset t = None

-- the credit stays in its range
abbrev pub Allows : Change → Stream → Type 0
Allows (IncrementCame n) t = (t.credit +ℤ pos n) ≤ℤ pos (2 ^ 33)
Allows (DataSent last zero) t = Unit {0}
Allows (DataSent last (suc n)) t = negsuc (2 ^ 33) ≤ℤ (t.credit -ℤ pos (suc n))
Allows other t = Unit {0}

-- the sums stay in their type; where one doesn't, it stands still
abbrev pub Counts : Change → Stream → Type 0
Counts (DataCame last size) t = t.unreturned + size < 2 ^ 32
Counts (UpdateGiven n) t = t.receive + n < 2 ^ 32
Counts other t = Unit {0}

-- what a change keeps of a stream
pub record Same (t s : Stream) : Type 0 where
  pub id : s.id ≡ t.id
  pub range : HasCreditInRange s
