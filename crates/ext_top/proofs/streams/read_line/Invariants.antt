use Rattle.std.proofs.Common.{◌≤◌, ◌-◌, vec_len}
use Rattle.std.specs.Io.KnownBytes.{Consumes}
use Rattle.ext_top.specs.Moves.{IsLine}
use Rattle.ext_top.proofs.streams.read_line.Given as goal

-- what was read is the line so far
abbrev pub invariant-bytes : goal.invariant-bytes
invariant-bytes g l = record {
  consumed : Consumes (g.S.Source.left l.fn.source) (g.S.Source.left l.source) l.line.items;
  whole : IsLine l.line.items;
  bound : vec_len l.line ≤ l.fn.most;
  later : g.S.Source.faults l.fn.source ≤ g.S.Source.faults l.source;
}

abbrev pub decreases-bytes : goal.decreases-bytes
decreases-bytes g l = l.fn.most - vec_len l.line
