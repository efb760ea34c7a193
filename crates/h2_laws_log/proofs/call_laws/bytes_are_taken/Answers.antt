-- Frame by frame of the queue.
use Rattle.h2_laws_log.proofs.Take.{take-seen, take-valid, take-opened, take-headless, data-conserved}
use Rattle.h2_laws_log.proofs.Sounds.{take-sound}
use Rattle.h2_laws_log.proofs.call_laws.bytes_are_taken.Goals as goal

pub returns : goal.returns
returns c = record {
  kept = λ n a v s. record {
    state = take-seen n a v s;
    valid = take-valid n a v s;
    sound = take-sound n a s;
    numbers =
        take-opened n a;
    headless = take-headless n a;
  };
  data_kept = data-conserved;
}
