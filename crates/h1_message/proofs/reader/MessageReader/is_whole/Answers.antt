use Rattle.std.proofs.Common.{◌∙◌, ap}
use Rattle.h1_message.specs.Stages.{whole_at}
use Rattle.h1_message.proofs.EndLaw.{tells}
use Rattle.h1_message.proofs.reader.MessageReader.is_whole.Goals as goal

pub returns : goal.returns
returns c s w = c.is_whole.ensures ∙ ap (whole_at c.args.self.now.stage) w.ended ∙ (tells s c.args.self.now.stage w.stage).whole
