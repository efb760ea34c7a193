-- Only SETTINGS wait at first.
use Rattle.h2_laws_log.proofs.RoomBegins.{start-counted}
use Rattle.h2_laws_log.proofs.room_laws.session_begins_counted.Goals as goal

pub returns : goal.returns
returns c = start-counted
