-- The status is among the fields that are left.
use Rattle.std.proofs.Common.{◌≡◌, drop}
use Rattle.h2_model.specs.StreamFaults.{status_of}
use Rattle.h2_streams.proofs.stream_faults.is_interim.Given as goal

abbrev pub invariant-loop-field : goal.invariant-loop-field
invariant-loop-field l = status_of l.field-items ≡ status_of (drop l.field-index l.field-items)
