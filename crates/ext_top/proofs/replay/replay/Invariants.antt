use Rattle.std.proofs.Common.{◌≤◌}
use Rattle.trace_model.specs.Places.{Place}
use Rattle.trace_player.specs.Ties.{StageIs}
use Rattle.ext_top.specs.Plays.{Played}
use Rattle.ext_top.proofs.replay.replay.Given as goal

-- so many lines were played, up to this stage
abbrev pub invariant-lines : goal.invariant-lines
invariant-lines g l = record {
  played : (p : Place) × StageIs p l.stage × Played l.count l.size (g.S.Source.left l.fn.source) (g.S.Source.left l.source) (g.K.Sink.written l.fn.sink) (g.K.Sink.written l.sink) p;
  later_source : g.S.Source.faults l.fn.source ≤ g.S.Source.faults l.source;
  later_sink : g.K.Sink.faults l.fn.sink ≤ g.K.Sink.faults l.sink;
}
