use Rattle.ext_msgs.proofs.AgainAnswer.{answer_again}
use Rattle.ext_msgs.proofs.laws.written_answer_is_read.Goals as goal

pub returns : goal.returns
returns c = answer_again
