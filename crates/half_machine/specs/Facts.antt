-- What follows from what a half remembers.
use Rattle.std.specs.Prelude.{Bool, not, ◌&&◌, ◌||◌, if◌then◌else◌}
use Rattle.ext_msgs.specs.declared.modes.BodyMode.{BodyMode}
use Rattle.ext_msgs.specs.declared.modes.BodyMode.TheVariants.{NoAsk}
use Rattle.filter_model.specs.Course.{is_buffered, is_partial}
use Rattle.half_machine.specs.declared.facts.Arrived.{Arrived}
use Rattle.half_machine.specs.declared.facts.Ruled.{Ruled}
use Rattle.half_machine.specs.declared.facts.Asked.{Asked}

abbrev pub mode_in : Ruled → BodyMode
mode_in r = if r.released || r.passes then NoAsk else r.modes.body

abbrev pub settled_in : Arrived → Ruled → Bool
settled_in a r = a.head && (r.released || not r.modes.headers || r.headers_answered)

abbrev pub collects_in : Arrived → Ruled → Asked → Bool
collects_in a r k = settled_in a r && (is_buffered (mode_in r) || (is_partial (mode_in r) && not k.body))
