use Rattle.std.proofs.Common.{◌≡◌, ◌++◌, drop}
use Rattle.http_model.specs.Bytes.{owned_names}
use Rattle.http_model.specs.Heads.{connection_options, shown_fields}
use Rattle.h1_read.proofs.ShownFields.{left}
use Rattle.h1_read.proofs.shown.shown_fields.Given as goal

abbrev pub invariant-loop-field : goal.invariant-loop-field
invariant-loop-field l =
    shown_fields l.fields ≡ l.shown.items ++ left (owned_names ++ connection_options l.fields) l.has_length (drop l.field-index l.fields)
