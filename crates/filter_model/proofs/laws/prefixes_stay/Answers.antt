use Rattle.filter_model.proofs.Growing.{still_goes}
use Rattle.filter_model.proofs.laws.prefixes_stay.Goals as goal

pub returns : goal.returns
returns c = still_goes
