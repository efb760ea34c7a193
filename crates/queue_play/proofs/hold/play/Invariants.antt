use Rattle.std.proofs.Common.{◌≡◌}
use Rattle.queue_play.proofs.hold.play.Given as goal

-- the hold stays one for the same buffer and the same answers
abbrev pub invariant-loop-step : goal.invariant-loop-step
invariant-loop-step l =
    (goal.iterator-loop-step).can_next l.step-iterator ×
    (goal.iterator-loop-step).is_finite l.step-iterator ×
    (l.hold.limit ≡ 16) ×
    (l.hold.answer ≡ 1024)
