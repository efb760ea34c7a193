use Rattle.filter_model.proofs.HalfWritten.{is_first_of_wire, is_all_of_wire}
use Rattle.filter_model.proofs.WiderPieces.{wider}
use Rattle.filter_model.proofs.laws.parts_are_the_first.Goals as goal

pub returns : goal.returns
returns c = record { first = is_first_of_wire; all = is_all_of_wire; wider = wider }
