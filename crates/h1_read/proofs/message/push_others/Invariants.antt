use Rattle.std.proofs.Common.{◌≡◌, ◌++◌, ◌∷◌, [], take}
use Rattle.http_model.specs.Bytes.{without}
use Rattle.h1_read.proofs.message.push_others.Given as goal

abbrev pub invariant-loop-field : goal.invariant-loop-field
invariant-loop-field l = l.head ≡ l.initial.head ++ without (l.name ∷ []) (take l.field-index l.fields)
