use Rattle.std.proofs.Common.{◌≡◌, map, take}
use Rattle.http_model.specs.Bytes.{without, owned_names}
use Rattle.h1_read.specs.Parsed.{span_field}
use Rattle.h1_read.proofs.fields.trailer_fields.Given as goal

abbrev pub invariant-loop-span : goal.invariant-loop-span
invariant-loop-span l = l.fields ≡ without owned_names (map (span_field l.bytes) (take l.span-index l.spans))
