use Rattle.std.proofs.Common.{◌≡◌, ◌++◌, drop, filter}
use Rattle.http_model.specs.Wire.{field_lines, is_written_as_is}
use Rattle.h1_write.proofs.fields.push_kept.Given as goal

-- what was written and what is left make up the whole
abbrev pub invariant-loop-field : goal.invariant-loop-field
invariant-loop-field l =
    l.out.items ++ field_lines (filter is_written_as_is (drop l.field-index l.field-items)) ≡ l.fn.out.items ++ field_lines (filter is_written_as_is l.field-items)
