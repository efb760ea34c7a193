-- Frame by frame.
use Rattle.h2_laws_log.proofs.RoomCalls.{data-counted, finish-counted, reset-counted, headed-counted, take-counted, answered-counted}
use Rattle.h2_laws_log.proofs.room_laws.handing_keeps_the_count.Goals as goal

pub returns : goal.returns
returns c = record {
  bytes = data-counted;
  finish = finish-counted;
  reset = reset-counted;
  head = headed-counted;
  taken = take-counted;
  told = answered-counted;
}
