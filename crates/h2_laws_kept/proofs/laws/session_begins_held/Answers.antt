-- From what a session keeps at first.
use Rattle.h2_laws_kept.proofs.Starts.{new-held}
use Rattle.h2_laws_kept.proofs.laws.session_begins_held.Goals as goal

pub returns : goal.returns
returns c = new-held
