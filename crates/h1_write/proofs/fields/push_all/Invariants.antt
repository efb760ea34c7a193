use Rattle.std.proofs.Common.{◌≡◌, ◌++◌, drop}
use Rattle.http_model.specs.Wire.{field_lines}
use Rattle.h1_write.proofs.fields.push_all.Given as goal

-- what was written and what is left make up the whole
abbrev pub invariant-loop-field : goal.invariant-loop-field
invariant-loop-field l = l.out.items ++ field_lines (drop l.field-index l.field-items) ≡ l.fn.out.items ++ field_lines l.field-items
