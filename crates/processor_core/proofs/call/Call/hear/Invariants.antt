use Rattle.std.proofs.Common.{◌≤◌, length}
use Rattle.processor_core.proofs.Hearing.{ReadsOn}
use Rattle.processor_core.proofs.call.Call.hear.Given as goal

-- reading goes on from the bytes that are left
abbrev pub invariant-turns : goal.invariant-turns
invariant-turns g l = record {
  reads : ReadsOn g.S.Stage.stands l.fn.stages.seats.items l.fn.self l.fn.bytes l.fn.ends l.stages.seats.items l.self l.rest;
  within : length l.rest ≤ length l.fn.bytes;
}

abbrev pub decreases-turns : goal.decreases-turns
decreases-turns g l = length l.rest
