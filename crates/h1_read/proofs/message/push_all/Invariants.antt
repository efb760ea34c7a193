use Rattle.std.proofs.Common.{◌≡◌, ◌++◌, take}
use Rattle.h1_read.proofs.message.push_all.Given as goal

abbrev pub invariant-loop-field : goal.invariant-loop-field
invariant-loop-field l = l.head ≡ l.initial.head ++ take l.field-index l.fields
