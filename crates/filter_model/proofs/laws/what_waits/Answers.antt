use Rattle.filter_model.proofs.HandedFits.{given_handed, handed_fits, waits_in}
use Rattle.filter_model.proofs.laws.what_waits.Goals as goal

pub returns : goal.returns
returns c = record { given = given_handed; handed = handed_fits; waits = waits_in }
