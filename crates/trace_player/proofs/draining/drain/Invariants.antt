use Rattle.std.proofs.Common.{◌≡◌, List, ℕ, ◌++◌, not}
use Rattle.std.specs.List.{All, concat}
use Rattle.http_model.specs.Bytes.{is_empty}
use Rattle.filter_model.specs.Config.{FilterConfig}
use Rattle.filter_model.specs.Right.{Call}
use Rattle.exchange.specs.Stands.{IsAfter}
use Rattle.trace_model.specs.Rounds.{gave, is_short}
use Rattle.trace_player.proofs.draining.drain.Given as goal

-- these pieces were given so far
abbrev pub invariant-pieces : goal.invariant-pieces
invariant-pieces l =
    (c : FilterConfig) (h : List Call) → IsAfter c h l.fn.exchange → (pieces : List (List ℕ)) × All is_short pieces
    × IsAfter c (gave l.fn.side pieces h) l.exchange × (l.got.items ≡ l.fn.got.items ++ concat pieces) × (l.some ≡ not (is_empty pieces))
