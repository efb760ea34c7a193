use Rattle.std.proofs.Common.{sym, ◌∙◌}
use Rattle.trace_player.proofs.Stages.{goes_on, out_of_place}
use Rattle.trace_player.proofs.stage.event.Goals as goal

pub returns-then-not-is_in_place : goal.returns-then-not-is_in_place
returns-then-not-is_in_place c = λ s p. out_of_place s c.args.line.now (sym (c.is_in_place.ensures s p) ∙ c.if-not-is_in_place.true)

pub returns : goal.returns
returns c = λ s p.
    goes_on s c.args.line.now c.event.new.self c.in_ok-text.text c.in_default.not-Stop (sym (c.is_in_place.ensures s p) ∙ c.if-not-is_in_place.false) (c.in_ok-text.ensures s p)
