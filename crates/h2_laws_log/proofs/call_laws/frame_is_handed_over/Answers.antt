-- By the kind of frame.
use Rattle.h2_laws_log.proofs.Unless.{send-seen, send-valid, send-sound, send-opened, send-headless, finish-seen, finish-valid, finish-sound, finish-opened, finish-headless, reset-call-seen, reset-call-valid, reset-call-sound, reset-opened, reset-headless}
use Rattle.h2_laws_log.proofs.call_laws.frame_is_handed_over.Goals as goal

pub returns : goal.returns
returns c = record {
  send = λ id bytes a v s l. record {
    state = send-seen id bytes a v;
    valid = send-valid id bytes a v l;
    sound =
        send-sound id bytes a s;
    numbers = send-opened id bytes a;
    headless = send-headless id bytes a;
  };
  finish = λ id a v s l. record {
    state = finish-seen id a v;
    valid = finish-valid id a v l;
    sound =
        finish-sound id a s;
    numbers = finish-opened id a;
    headless = finish-headless id a;
  };
  reset = λ id code a v s l. record {
    state = reset-call-seen id code a v;
    valid = reset-call-valid id code a v l;
    sound =
        reset-call-sound id code a s;
    numbers = reset-opened id code a;
    headless = reset-headless id code a;
  };
}
