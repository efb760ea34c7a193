use Rattle.ext_msgs.specs.MessageFault.{answer_fault}
use Rattle.ext_msgs.specs.Parts.{answer_parts, answer_add}
use Rattle.ext_msgs.proofs.Whole.{reads_ok}
use Rattle.ext_msgs.proofs.AnswerLaws.{answer_one, is_answer}
use Rattle.ext_msgs.proofs.reading.read_answer.Goals as goal

pub returns : goal.returns
returns c =
    let r = reads_ok answer_fault answer_add answer_parts answer_one c.args.bytes.now c.in_ok-parts.parts c.in_ok-parts.ensures in
    is_answer c.args.bytes.now c.in_ok-parts.parts c.finish.result r.0 r.1 c.finish.ensures
