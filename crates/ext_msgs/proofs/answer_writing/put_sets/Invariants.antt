use Rattle.std.proofs.Common.{◌≡◌, ◌++◌, map, drop}
use Rattle.pb_wire.specs.Canonical.{spelling}
use Rattle.ext_msgs.specs.Spelling.{set_record}
use Rattle.ext_msgs.proofs.answer_writing.put_sets.Given as goal

-- what was written, and the fields that are left
abbrev pub invariant-loop-field : goal.invariant-loop-field
invariant-loop-field l = l.out ++ spelling (map set_record (drop l.field-index l.field-items)) ≡ l.fn.out ++ spelling (map set_record l.field-items)
