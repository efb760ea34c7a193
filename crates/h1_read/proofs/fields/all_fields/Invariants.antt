use Rattle.std.proofs.Common.{◌≡◌, map, take}
use Rattle.h1_read.specs.Parsed.{span_field}
use Rattle.h1_read.proofs.fields.all_fields.Given as goal

abbrev pub invariant-loop-span : goal.invariant-loop-span
invariant-loop-span l = l.fields.items ≡ map (span_field l.bytes) (take l.span-index l.spans)
