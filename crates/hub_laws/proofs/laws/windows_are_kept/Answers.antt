use Rattle.hub_laws.proofs.Windows.{windows_kept}
use Rattle.hub_laws.proofs.laws.windows_are_kept.Goals as goal

pub returns : goal.returns
returns c = windows_kept
