use Rattle.std.proofs.Common.{◌≡◌, drop, bytes_eq}
use Rattle.std.specs.List.{list_any}
use Rattle.http_model.specs.Bytes.{values_of, lower}
use Rattle.h1_read.proofs.values.has_value.Given as goal

abbrev pub invariant-loop-field : goal.invariant-loop-field
invariant-loop-field l =
    list_any (λ v. bytes_eq (lower v) l.lower_text) (values_of l.name l.fields)
    ≡ list_any (λ v. bytes_eq (lower v) l.lower_text) (values_of l.name (drop l.field-index l.fields))
