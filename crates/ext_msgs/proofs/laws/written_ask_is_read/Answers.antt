use Rattle.ext_msgs.proofs.AgainAsk.{ask_again}
use Rattle.ext_msgs.proofs.laws.written_ask_is_read.Goals as goal

pub returns : goal.returns
returns c = ask_again
