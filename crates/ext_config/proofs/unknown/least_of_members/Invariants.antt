use Rattle.std.proofs.Common.{◌≡◌, fold}
use Rattle.serde_json.specs.View.{members_view}
use Rattle.ext_config.specs.Configured.{unknown_in, lesser}
use Rattle.ext_config.proofs.unknown.least_of_members.Given as goal

abbrev pub invariant-loop-name : goal.invariant-loop-name
invariant-loop-name l =
    (goal.iterator-loop-name).can_next l.name-iterator ×
    (goal.iterator-loop-name).is_finite l.name-iterator ×
    (fold lesser l.least (unknown_in l.section (members_view l.name-iterator))
    ≡ fold lesser l.fn.least (unknown_in l.section (members_view l.object.entries)))
