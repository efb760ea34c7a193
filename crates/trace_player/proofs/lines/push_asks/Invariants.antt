use Rattle.std.proofs.Common.{◌≡◌, ◌++◌, map}
use Rattle.std.specs.Vec.Iter.{into_iter_items}
use Rattle.trace_format.specs.declared.out.OutLine.TheVariants as out
use Rattle.trace_model.specs.Lines.{text_of_lines}
use Rattle.trace_player.proofs.lines.push_asks.Given as goal

-- the lines of the asks so far
abbrev pub invariant-asks : goal.invariant-asks
invariant-asks l =
    l.text.items ++ text_of_lines (map (out.Ask l.fn.x) (into_iter_items l.ask-iterator)) ≡ l.fn.text.items ++ text_of_lines (map (out.Ask l.fn.x) l.fn.asks.items)
