-- By the kind of call.
use Rattle.h2_laws_log.proofs.RoomBytes.{called-counted}
use Rattle.h2_laws_log.proofs.room_laws.calls_keep_the_count.Goals as goal

pub returns : goal.returns
returns c = called-counted
