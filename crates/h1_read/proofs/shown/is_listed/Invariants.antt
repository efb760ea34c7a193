use Rattle.std.proofs.Common.{◌≡◌, drop}
use Rattle.http_model.specs.Bytes.{is_one_of}
use Rattle.http_model.specs.Heads.{connection_options}
use Rattle.h1_read.proofs.shown.is_listed.Given as goal

abbrev pub invariant-loop-field : goal.invariant-loop-field
invariant-loop-field l = is_one_of (connection_options l.fields) l.name ≡ is_one_of (connection_options (drop l.field-index l.fields)) l.name
