use Rattle.std.proofs.Common.{◌≡◌, ◌≤◌, ◌+◌, drop, min}
use Rattle.filter_model.specs.Held.{field_bytes}
use Rattle.half_machine.proofs.beside.field_bytes.Given as goal

-- what was counted and what is left make up the whole
abbrev pub invariant-loop-field : goal.invariant-loop-field
invariant-loop-field l =
    (l.total ≤ 18_446_744_073_709_551_615)
    × (min (l.total + field_bytes (drop l.field-index l.field-items)) 18_446_744_073_709_551_615 ≡ min (field_bytes l.field-items) 18_446_744_073_709_551_615)
