use Rattle.ext_msgs.proofs.ReadableMessages.{answer_writable}
use Rattle.ext_msgs.proofs.laws.read_answer_is_writable.Goals as goal

pub returns : goal.returns
returns c = answer_writable
