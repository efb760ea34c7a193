use Rattle.std.proofs.Common.{sym, ◌∙◌}
use Rattle.h1_read.proofs.TurnLaw.{turn_interim, turn_final}
use Rattle.h1_read.proofs.step.response_turn.Goals as goal

pub returns-then-not-is_interim : goal.returns-then-not-is_interim
returns-then-not-is_interim c =
    let whole = rw c.in-Whole.is at c.in_ok-parts.ensures in
    turn_final c.args.to_head c.args.bytes.now c.in-Whole.parts c.in-Whole.used c.in_ok-message-in-Whole.message whole (sym c.is_interim.ensures ∙ c.if-not-is_interim.true) c.in_ok-message-in-Whole.ensures

pub returns-else-eq : goal.returns-else-eq
returns-else-eq c =
    let whole = rw c.in-Whole.is at c.in_ok-parts.ensures in
    turn_interim c.args.to_head c.args.bytes.now c.in-Whole.parts c.in-Whole.used whole (sym c.is_interim.ensures ∙ c.if-not-is_interim.false) (sym c.eq.ensures ∙ c.if-eq.false)
