use Rattle.std.proofs.Common.{◌≡◌, drop, codes}
use Rattle.filter_model.specs.Course.{has_status}
use Rattle.half_machine.proofs.own.is_no_content.Given as goal

abbrev pub invariant-loop-field : goal.invariant-loop-field
invariant-loop-field l = has_status (codes "204") l.head ≡ has_status (codes "204") (drop l.field-index l.field-items)
