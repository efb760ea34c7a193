use Rattle.std.proofs.Common.{◌≡◌, ◌++◌, map, drop}
use Rattle.pb_wire.specs.Canonical.{spelling}
use Rattle.ext_msgs.specs.Spelling.{field_record}
use Rattle.ext_msgs.proofs.writing.map.Given as goal

-- what was written, and the fields that are left
abbrev pub invariant-loop-field : goal.invariant-loop-field
invariant-loop-field l = l.message ++ spelling (map field_record (drop l.field-index l.field-items)) ≡ spelling (map field_record l.field-items)
