use Rattle.std.proofs.Common.{◌≡◌, ◌++◌, map, drop}
use Rattle.pb_wire.specs.Canonical.{spelling}
use Rattle.ext_msgs.specs.Spelling.{removal_record}
use Rattle.ext_msgs.proofs.answer_writing.put_removals.Given as goal

-- what was written, and the names that are left
abbrev pub invariant-loop-name : goal.invariant-loop-name
invariant-loop-name l = l.out ++ spelling (map removal_record (drop l.name-index l.name-items)) ≡ l.fn.out ++ spelling (map removal_record l.name-items)
