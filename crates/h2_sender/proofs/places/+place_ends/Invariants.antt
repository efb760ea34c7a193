-- Each call has one frame fewer.
use Rattle.std.specs.VecDeque.{deque_len}
use Rattle.h2_sender.proofs.places.+place_ends.Given as goal

abbrev pub decreases-place_ends : goal.decreases-place_ends
decreases-place_ends l = deque_len l.frames.now
