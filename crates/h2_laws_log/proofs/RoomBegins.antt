-- A session begins with SETTINGS alone.
use Rattle.std.proofs.Common.{Bool, refl, le_refl}
use Rattle.h2_model.specs.History.{start}
use Rattle.h2_laws_log.specs.Rooms.{Counted}

pub start-counted : (client : Bool) → Counted (start client)
unfolding start
start-counted client = record {
  ends = λ id. le_refl 0;
  resets = λ id. le_refl 0;
  connection_ends = refl;
  connection_resets = refl;
}
