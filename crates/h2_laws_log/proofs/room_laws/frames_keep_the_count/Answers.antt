-- By what each frame owes.
use Rattle.h2_laws_log.proofs.RoomCalls.{noted-counted, violated-counted}
use Rattle.h2_laws_log.proofs.RoomArrives.{arrived-counted}
use Rattle.h2_laws_log.proofs.RoomBytes.{byte-steady, bytes-steady}
use Rattle.h2_laws_log.proofs.room_laws.frames_keep_the_count.Goals as goal

pub returns : goal.returns
returns c = record {
  noted = noted-counted;
  arrived = arrived-counted;
  violated = violated-counted;
  byte = λ b a s t k. (byte-steady b a (record { frames = s; sound = t; counted = k })).counted;
  bytes = λ bytes a s t k. (bytes-steady bytes a (record { frames = s; sound = t; counted = k })).counted;
}
