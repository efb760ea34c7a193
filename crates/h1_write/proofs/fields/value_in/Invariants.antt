use Rattle.std.proofs.Common.{◌≡◌, drop}
use Rattle.http_model.specs.Bytes.{value_of}
use Rattle.h1_write.proofs.fields.value_in.Given as goal

-- the fields so far have another name
abbrev pub invariant-loop-field : goal.invariant-loop-field
invariant-loop-field l = value_of l.name l.field-items ≡ value_of l.name (drop l.field-index l.field-items)
