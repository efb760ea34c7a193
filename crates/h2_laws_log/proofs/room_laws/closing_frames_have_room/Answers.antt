-- The pigeonhole over the streams that were opened.
use Rattle.h2_laws_log.proofs.Room.{closings-room, streams-kept}
use Rattle.h2_laws_log.proofs.room_laws.closing_frames_have_room.Goals as goal

pub returns : goal.returns
returns c = record { closings = closings-room; streams = streams-kept }
