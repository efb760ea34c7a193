use Rattle.std.proofs.Common.{Option, subst}
use Rattle.ext_top.specs.declared.words.Command.{Command}
use Rattle.ext_top.specs.Runs.{Replays, RunsAs}
use Rattle.ext_top.proofs.Endings.{told_as_decided}
use Rattle.ext_top.proofs.top.run.Goals as goal

pub returns-in-Some-Replay-clause-outcome : goal.returns-in-Some-Replay-clause-outcome
returns-in-Some-Replay-clause-outcome g c =
    let word = rw c.in-Some-Replay.field-0-is at c.in-Some-Replay.ensures in
    let runs : Replays c.replay.result (g.S.Source.left c.args.source.now) (g.S.Source.left c.replay.new.source) (g.K.Sink.written c.args.sink.now) (g.K.Sink.written c.replay.new.sink) = record {
      ends = c.replay.ensures.outcome;
      decided = told_as_decided _ _ _ _ c.replay.result c.replay.ensures.outcome;
    } in
    subst (λ (o : Option Command). RunsAs o c.replay.result (g.S.Source.left c.args.source.now) (g.S.Source.left c.replay.new.source) (g.K.Sink.written c.args.sink.now) (g.K.Sink.written c.replay.new.sink)) word runs
