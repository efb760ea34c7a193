-- The asks of one direction, among those of both in the order in which they were made.
use Rattle.std.specs.Prelude.{Bool, true, false, List, [], ◌∷◌, Some}
use Rattle.ext_msgs.specs.declared.ask.Ask.{Ask}
use Rattle.http_model.specs.declared.types.Direction.{Direction}
use Rattle.filter_model.specs.Account.{direction_of, is_in}

abbrev pub asks_if : Bool → Ask → List Ask → List Ask
asks_if true x asks = x ∷ asks
asks_if false x asks = asks

abbrev pub asks_in : Direction → List Ask → List Ask
asks_in d [] = []
asks_in d (x ∷ asks) = asks_if (is_in d (Some (direction_of x))) x (asks_in d asks)
