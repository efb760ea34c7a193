use Rattle.std.proofs.Common.{◌∙◌}
use Rattle.h1_message.proofs.EndLaw.{tells}
use Rattle.h1_message.proofs.reader.MessageReader.has_head.Goals as goal

pub returns : goal.returns
returns c s w = c.has_head.ensures ∙ (tells s c.args.self.now.stage w.stage).headed
