use Rattle.ext_msgs.specs.MessageFault.{ask_fault}
use Rattle.ext_msgs.specs.Parts.{ask_parts, ask_add}
use Rattle.ext_msgs.proofs.Whole.{reads_ok}
use Rattle.ext_msgs.proofs.AskLaws.{ask_one, is_ask}
use Rattle.ext_msgs.proofs.reading.read_ask.Goals as goal

pub returns : goal.returns
returns c =
    let r = reads_ok ask_fault ask_add ask_parts ask_one c.args.bytes.now c.in_ok-parts.parts c.in_ok-parts.ensures in
    is_ask c.args.bytes.now c.in_ok-parts.parts c.finish.result r.0 r.1 c.finish.ensures
