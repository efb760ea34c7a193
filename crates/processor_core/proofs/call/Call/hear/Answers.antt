use Rattle.std.proofs.Common.{arith}
use Rattle.processor_core.proofs.Hearing.{comes_to_rest, goes_on}
use Rattle.processor_core.proofs.call.Call.hear.Goals as goal

pub turns-preserved : goal.turns-preserved
turns-preserved g c = record {
  reads = goes_on g.S.Stage.stands c.args.stages.now.seats.items c.turns.stages.seats.items c.turn.new.stages.seats.items c.args.self.now c.turns.self c.turn.new.self c.args.bytes.now c.turns.rest.now c.split_at.result.1.now
      c.args.ends c.in-Some.used c.turns.invariant.reads c.in-Some.ensures.turned c.split_at.ensures.back;
  within = let w = c.turns.invariant.within in let n = c.split_at.ensures.back_len in omega arith;
}

pub returns : goal.returns
returns g c =
    comes_to_rest g.S.Stage.stands c.args.stages.now.seats.items c.turns.stages.seats.items c.turn.new.stages.seats.items c.args.self.now c.turns.self c.turn.new.self c.args.bytes.now c.turns.rest.now
    c.args.ends c.turns.invariant.reads c.in_default.ensures.turned
