use Rattle.h1_read.proofs.ReadBack.{message_given, message_accepted}
use Rattle.h1_read.proofs.laws.written_message_is_read.Goals as goal

pub returns-clause-given : goal.returns-clause-given
returns-clause-given c = message_given

pub returns-clause-accepted : goal.returns-clause-accepted
returns-clause-accepted c = message_accepted
