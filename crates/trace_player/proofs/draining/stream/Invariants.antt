use Rattle.std.proofs.Common.{◌≡◌, List, None, false}
use Rattle.std.specs.List.{All}
use Rattle.filter_model.specs.Config.{FilterConfig}
use Rattle.filter_model.specs.Right.{Call}
use Rattle.filter_model.specs.declared.calls.Next.{Next}
use Rattle.exchange.specs.Stands.{IsAfter}
use Rattle.trace_model.specs.Rounds.{is_nothing, stream_gave}
use Rattle.trace_player.specs.Ties.{asks_in_order, last_end}
use Rattle.trace_player.proofs.draining.stream.Given as goal

-- this was given so far
abbrev pub invariant-nexts : goal.invariant-nexts
invariant-nexts l =
    (c : FilterConfig) (h : List Call) → IsAfter c h l.fn.exchange → (nexts : List Next) × All (λ n. is_nothing n ≡ false) nexts
    × IsAfter c (stream_gave nexts h) l.exchange × (l.asks.items ≡ asks_in_order nexts) × (l.ending ≡ last_end None nexts)
