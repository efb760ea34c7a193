use Rattle.std.proofs.Common.{[], ◌∷◌, ◌++◌, arith}
use Rattle.px_edge.proofs.Moved.{consumes_none}
use Rattle.ext_top.proofs.Firsts.{begins}
use Rattle.ext_top.proofs.Plays.{played_more, halted_read, halted_write}
use Rattle.ext_top.proofs.replay.replay.Goals as goal

pub returns-in-Err-Read-clause-outcome : goal.returns-in-Err-Read-clause-outcome
returns-in-Err-Read-clause-outcome g c =
    let (p, is, played) = c.lines.invariant.played in
    halted_read c.lines.count c.lines.size _ _ _ _ _ p c.in-Err-Read.ensures.some.0 played c.in-Err-Read.ensures.some.1

pub returns-in-Err-Memory-clause-outcome : goal.returns-in-Err-Memory-clause-outcome
returns-in-Err-Memory-clause-outcome g c =
    let (p, is, played) = c.lines.invariant.played in
    halted_read c.lines.count c.lines.size _ _ _ _ _ p c.in-Err-Memory.ensures.some.0 played c.in-Err-Memory.ensures.some.1

pub returns-in-Err-clause-outcome : goal.returns-in-Err-clause-outcome
returns-in-Err-clause-outcome g c =
    let (p, is, played) = c.lines.invariant.played in
    let line = rw (c.in-Ok-Some.field-0-is, c.room.ensures) at c.in-Ok-Some.ensures.line in
    halted_read c.lines.count c.lines.size _ _ _ _ _ p (c.in-Ok-Some.line.items ++ 10 ∷ []) played line.read

pub returns-in-Err-write_all-clause-outcome : goal.returns-in-Err-write_all-clause-outcome
returns-in-Err-write_all-clause-outcome g c =
    let (p, is, played) = c.lines.invariant.played in
    let line = rw (c.in-Ok-Some.field-0-is, c.room.ensures) at c.in-Ok-Some.ensures.line in
    let goes = rw (c.in-Ok-Goes.field-0-is, c.as_slice.ensures.value) at c.in-Ok-Goes.ensures p is in
    let some = rw c.bytes.ensures.list at c.in-Err-write_all.ensures.some in
    halted_write c.lines.count c.lines.size _ _ _ _ _ _ p goes.place c.in-Ok-Some.line.items goes.lines played line goes.leads (rw goes.tells at some)

pub returns-in-Ok-Unbuilt-clause-outcome : goal.returns-in-Ok-Unbuilt-clause-outcome
returns-in-Ok-Unbuilt-clause-outcome g c =
    let (p, is, played) = c.lines.invariant.played in
    let line = rw (c.in-Ok-Some.field-0-is, c.room.ensures) at c.in-Ok-Some.ensures.line in
    let unbuilt = rw (c.in-Ok-Unbuilt.field-0-is, c.as_slice.ensures.value) at c.in-Ok-Unbuilt.ensures p is in
    begins c.lines.count c.lines.size _ _ _ _ _ p c.in-Ok-Some.line.items played line unbuilt

pub lines-preserved : goal.lines-preserved
lines-preserved g c =
    let (p, is, played) = c.lines.invariant.played in
    let line = rw (c.in-Ok-Some.field-0-is, c.room.ensures) at c.in-Ok-Some.ensures.line in
    let goes = rw (c.in-Ok-Goes.field-0-is, c.as_slice.ensures.value) at c.in-Ok-Goes.ensures p is in
    let all = rw c.bytes.ensures.list at c.in-Ok.ensures.written in
    record {
      played = (goes.place, goes.stage, played_more c.lines.count c.lines.size c.len.result _ _ _ _ _ _ p goes.place c.in-Ok-Some.line.items goes.lines played line (omega (arith, c.len.ensures)) goes.leads (rw goes.tells at all));
      later_source = omega (arith, c.in-Ok-Some.ensures.later, c.lines.invariant.later_source);
      later_sink = omega (arith, c.in-Ok.ensures.cause.later, c.lines.invariant.later_sink);
    }

pub returns-clause-outcome : goal.returns-clause-outcome
returns-clause-outcome g c =
    let (p, is, played) = c.lines.invariant.played in
    halted_read c.lines.count c.lines.size _ _ _ _ _ p [] played (consumes_none (g.S.Source.left c.lines.source))
