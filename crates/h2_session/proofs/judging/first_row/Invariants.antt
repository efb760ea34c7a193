-- No row so far holds.
use Rattle.std.proofs.Common.{◌≡◌, None, take}
use Rattle.h2_model.specs.Codes.{first_row}
use Rattle.h2_session.proofs.judging.first_row.Given as goal

abbrev pub invariant-loop-holds : goal.invariant-loop-holds
invariant-loop-holds l = first_row (take l.holds-index l.rows) ≡ None
