-- What is late is late among the fields that are left, behind a field that is none or behind pseudo fields alone.
use Rattle.std.proofs.Common.{◌≡◌, ◌&&◌, ◌||◌, drop}
use Rattle.std.specs.List.{list_any}
use Rattle.h2_model.specs.StreamFaults.{has_late_pseudo, is_pseudo}
use Rattle.h2_streams.proofs.stream_faults.has_late_pseudo.Given as goal

abbrev pub invariant-loop-field : goal.invariant-loop-field
invariant-loop-field l = has_late_pseudo l.fields
    ≡ ((l.regular && list_any is_pseudo (drop l.field-index l.fields)) || has_late_pseudo (drop l.field-index l.fields))
