-- Each call has one frame fewer.
use Rattle.std.specs.VecDeque.{deque_len}
use Rattle.h2_session.proofs.session.Session.+owe_all.Given as goal

abbrev pub decreases-owe_all : goal.decreases-owe_all
decreases-owe_all l = deque_len l.owed
