-- What the bytes or the end of a side come to, once what was given before it is known.
use Rattle.std.specs.Prelude.{Bool, true, false, Option, Some, None}
use Rattle.http_model.specs.declared.types.Direction.{Direction}
use Rattle.filter_model.specs.Cut.{Cut, Over}
use Rattle.filter_model.specs.View.{ViewEntry, Bytes, End}
use Rattle.filter_model.specs.declared.calls.Side.{Side}
use Rattle.filter_model.specs.declared.calls.Side.TheVariants.{Client, Upstream}

-- bytes of this side, or its end
abbrev pub IsReadOf : Side → ViewEntry → Type 0
IsReadOf Client (Bytes Client bytes) = Unit {0}
IsReadOf Client (End Client) = Unit {0}
IsReadOf Upstream (Bytes Upstream bytes) = Unit {0}
IsReadOf Upstream (End Upstream) = Unit {0}
IsReadOf _ _ = ⊥

-- once both messages were given nothing is a cut; a body past its limit goes before a fault
abbrev pub read_cut : Bool → Bool → Direction → Option Cut → Option Cut
read_cut true over d fault = None
read_cut false true d fault = Some (Over d)
read_cut false false d fault = fault
