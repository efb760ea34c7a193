use Rattle.trace_player.proofs.PlayedRounds.{plays_on, plays_out}
use Rattle.trace_player.proofs.opened.Opened.play.Goals as goal

pub round-requires : goal.round-requires
round-requires c =
    let (k, m, t) = c.requires in
    let b = c.rounds.invariant k m t in
    (k, b.now, b.tied)

pub returns-then-not-some : goal.returns-then-not-some
returns-then-not-some c = λ k m t.
    let b = c.rounds.invariant k m t in
    plays_out k m c.rounds.self c.round.new.self c.rounds.brought c.round.new.brought b (rw c.if-not-some.true at c.in_ok-some.ensures k b.now b.tied)

pub rounds-preserved : goal.rounds-preserved
rounds-preserved c = λ k m t.
    let b = c.rounds.invariant k m t in
    plays_on k m c.rounds.self c.round.new.self c.rounds.brought c.round.new.brought b (rw c.if-not-some.false at c.in_ok-some.ensures k b.now b.tied)
