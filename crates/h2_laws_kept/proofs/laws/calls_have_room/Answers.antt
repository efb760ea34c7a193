-- By the credits of the live streams, and by what is reserved.
use Rattle.h2_laws_kept.proofs.Handing.{stream-found, room-there, held-room-there}
use Rattle.h2_laws_kept.proofs.Opens.{table-room-there}
use Rattle.h2_laws_kept.proofs.laws.calls_have_room.Goals as goal

pub returns : goal.returns
returns c = record { found = stream-found; queue = room-there; held = held-room-there; table = table-room-there }
