use Rattle.h2_frames.proofs.Cuts.{in_any_cut}
use Rattle.h2_frames.proofs.laws.frames_in_any_cut.Goals as goal

pub returns : goal.returns
returns c = in_any_cut
