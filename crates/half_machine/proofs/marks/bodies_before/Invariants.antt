use Rattle.std.proofs.Common.{◌≡◌, length, take}
use Rattle.std.specs.Prelude.{filter}
use Rattle.half_machine.specs.Marks.{is_of_body}
use Rattle.half_machine.proofs.marks.bodies_before.Given as goal

abbrev pub invariant-marks : goal.invariant-marks
invariant-marks l = l.n ≡ length (filter is_of_body (take l.k l.marks))
