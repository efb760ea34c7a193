use Rattle.h2_frames.proofs.Cuts.{stands}
use Rattle.h2_frames.proofs.laws.faults_stand.Goals as goal

pub returns : goal.returns
returns c = stands
