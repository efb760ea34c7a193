use Rattle.filter_model.specs.Config.{FilterConfig}
use Rattle.trace_model.specs.Links.{ExchangeState}
use Rattle.trace_player.specs.Ties.{IsTied}
use Rattle.trace_player.proofs.PlayedRounds.{HasBegun}
use Rattle.trace_player.proofs.opened.Opened.play.Given as goal

-- the rounds so far did something
abbrev pub invariant-rounds : goal.invariant-rounds
invariant-rounds l = (c : FilterConfig) (m : ExchangeState) → IsTied c m l.fn.self → HasBegun c m l.self l.brought
