use Rattle.std.proofs.Common.{◌≡◌, ◌++◌, ◌+◌, drop}
use Rattle.pb_wire.specs.Canonical.{spelling}
use Rattle.ext_msgs.specs.Spelling.{numbered}
use Rattle.ext_msgs.proofs.answer_writing.mode_numbers.Given as goal

-- what was written, and the numbers that are left
abbrev pub invariant-loop-mode : goal.invariant-loop-mode
invariant-loop-mode l = record {
  told : l.message ++ spelling (numbered l.number (drop l.mode-index l.mode-items)) ≡ spelling (numbered 1 l.mode-items);
  count : l.number ≡ l.mode-index + 1;
}
