use Rattle.std.proofs.Common.{◌≡◌, ◌++◌, List}
use Rattle.trace_format.specs.declared.out.OutLine.{OutLine}
use Rattle.trace_model.specs.Links.{filter_of}
use Rattle.trace_model.specs.Lines.{text_of_lines}
use Rattle.trace_model.specs.Places.{TraceState}
use Rattle.trace_player.specs.Ties.{PlayerIs}
use Rattle.trace_player.proofs.PlayedAll.{SoFar}
use Rattle.trace_player.proofs.player.Player.meet_all.Given as goal

-- the exchanges so far met the line
abbrev pub invariant-exchanges : goal.invariant-exchanges
invariant-exchanges l =
    (s : TraceState) → PlayerIs s l.fn.self → (lines : List OutLine) × SoFar (filter_of s.config) l.fn.line 1 l.opened-index s.exchanges l.opened-items lines
    × (l.x ≡ l.opened-index) × (l.text.items ≡ l.fn.text.items ++ text_of_lines lines)
