use Rattle.h2_frames.proofs.Cuts.{one_list}
use Rattle.h2_frames.proofs.laws.one_list_of_frames.Goals as goal

pub returns : goal.returns
returns c = one_list
