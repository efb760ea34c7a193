use Rattle.std.proofs.Common.{◌≤◌, ◌-◌, ◌≡◌, length, take}
use Rattle.std.specs.Io.KnownBytes.{Appends}
use Rattle.px_edge.proofs.sending.send_all.Given as goal

-- what was written is the piece so far
abbrev pub invariant-loop-done : goal.invariant-loop-done
invariant-loop-done g l = record {
  written : Appends (g.O.OutLink.written l.fn.link) (g.O.OutLink.written l.link) (take l.done l.piece);
  within : l.done ≤ length l.piece;
  later : g.O.OutLink.faults l.fn.link ≤ g.O.OutLink.faults l.link;
  shut : g.O.OutLink.was_shut l.link ≡ g.O.OutLink.was_shut l.fn.link;
  aborted : g.O.OutLink.was_aborted l.link ≡ g.O.OutLink.was_aborted l.fn.link;
}

abbrev pub decreases-loop-done : goal.decreases-loop-done
decreases-loop-done g l = length l.piece - l.done
