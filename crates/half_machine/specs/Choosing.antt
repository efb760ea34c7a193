-- How a half chooses its head's framing, once the head may go.
use Rattle.std.specs.Prelude.{◌≡◌, Bool, false, not, ◌&&◌, ◌||◌, length, Some, is_some, if◌then◌else◌}
use Rattle.http_model.specs.Heads.{is_bodiless}
use Rattle.http_model.specs.declared.types.Framing.{Framing}
use Rattle.http_model.specs.declared.types.Framing.TheVariants.{Length as OfLength}
use Rattle.http_model.specs.declared.types.Direction.{Direction}
use Rattle.filter_model.specs.Config.{CourseConfig}
use Rattle.filter_model.specs.Course.{framing_by, is_bare, is_buffered, is_no_ask}
use Rattle.filter_model.specs.Half.{Progress}
use Rattle.half_machine.specs.Facts.{mode_in, settled_in}
use Rattle.half_machine.specs.Stands.{MadeWith, Ties}
use Rattle.half_machine.specs.declared.half.Half.{Half}

abbrev pub may_go : Half → Bool
may_go x =
    x.rule.released || (settled_in x.arrived x.rule
    && (not (is_buffered (mode_in x.rule)) || is_bodiless x.arrived.framed || x.rule.body_answered))

abbrev pub kept_framing_in : Half → Framing
kept_framing_in x =
    if is_buffered x.rule.modes.body && x.rule.body_answered && not x.arrived.trailers then OfLength x.counts.pieces
    else framing_by x.arrived.framed (is_no_ask (mode_in x.rule) || is_bodiless x.arrived.framed)

abbrev pub framing_in : Half → Framing
framing_in x =
    if is_bare x.direction x.arrived.framed then x.arrived.own
    else if x.rule.replaced then OfLength (length x.hold.out)
    else kept_framing_in x

abbrev pub chosen_in : Half → Half
chosen_in x =
    if not (is_some x.gone.framing) && may_go x && x.arrived.head then record x { gone = record x.gone { framing = Some (framing_in x) } } else x

-- the head was chosen, where it can go
abbrev pub IsChosen : Half → Type 0
IsChosen x = (not (is_some x.gone.framing) && may_go x && x.arrived.head) ≡ false

-- it stands for this progress
abbrev pub Holds : CourseConfig → Direction → Progress → Half → Type 0
Holds c d p x = MadeWith c d x × Ties c d p x
