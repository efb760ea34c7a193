use Rattle.std.proofs.Common.{◌≡◌, drop, codes}
use Rattle.std.specs.List.{list_all}
use Rattle.http_model.specs.Bytes.{values_of}
use Rattle.h1_read.specs.Lengths.{is_that_length}
use Rattle.h1_read.proofs.length.is_each_length.Given as goal

abbrev pub invariant-loop-field : goal.invariant-loop-field
invariant-loop-field l =
    list_all (is_that_length l.number) (values_of (codes "content-length") l.fields)
    ≡ list_all (is_that_length l.number) (values_of (codes "content-length") (drop l.field-index l.fields))
