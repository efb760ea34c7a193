use Rattle.h2_frames.proofs.Padded.{left_out}
use Rattle.h2_frames.proofs.laws.padding_is_left_out.Goals as goal

pub returns : goal.returns
returns c = left_out
