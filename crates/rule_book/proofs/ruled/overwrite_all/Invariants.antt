use Rattle.std.proofs.Common.{◌≡◌, map, take}
use Rattle.rule_book.specs.Ruled.{overwrite}
use Rattle.rule_book.proofs.ruled.overwrite_all.Given as goal

abbrev pub invariant-loop-field : goal.invariant-loop-field
invariant-loop-field l = l.sets ≡ map overwrite (take l.field-index l.field-items)
