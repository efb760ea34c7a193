use Rattle.std.proofs.Common.{◌≡◌, drop}
use Rattle.filter_model.specs.Course.{own_length}
use Rattle.half_machine.proofs.own.own_length.Given as goal

abbrev pub invariant-loop-field : goal.invariant-loop-field
invariant-loop-field l = own_length l.head ≡ own_length (drop l.field-index l.field-items)
