use Rattle.h2_frames.proofs.Written.{read_back}
use Rattle.h2_frames.proofs.laws.written_is_read.Goals as goal

pub returns : goal.returns
returns c = read_back
