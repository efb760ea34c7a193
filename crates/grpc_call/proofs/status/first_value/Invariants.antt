-- The value is among the fields that are left.
use Rattle.std.proofs.Common.{◌≡◌, drop}
use Rattle.grpc_call.specs.Blocks.{first_value}
use Rattle.grpc_call.proofs.status.first_value.Given as goal

abbrev pub invariant-loop-field : goal.invariant-loop-field
invariant-loop-field l = first_value l.name l.field-items ≡ first_value l.name (drop l.field-index l.field-items)
