use Rattle.ext_msgs.proofs.ReadableMessages.{ask_writable}
use Rattle.ext_msgs.proofs.laws.read_ask_is_writable.Goals as goal

pub returns : goal.returns
returns c = ask_writable
