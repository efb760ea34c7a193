use Rattle.filter_model.proofs.CutHead.{cut_head, cut_to_head}
use Rattle.filter_model.proofs.laws.cut_head.Goals as goal

pub returns : goal.returns
returns c = record { chosen = cut_head; to_head = cut_to_head }
