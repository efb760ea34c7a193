-- A reset is handed over, but for after a violation.
use Rattle.std.proofs.Common.{◌≡◌, true, false, refl, sym, ◌∙◌, ap, is_some}
use Rattle.h2_model.specs.Calls.{now}
use Rattle.h2_session.proofs.Standing.{asked-live, capacity-itself, reset-stands, same-itself}
use Rattle.h2_laws_kept.specs.Kept.{Kept}
use Rattle.h2_laws_kept.proofs.Handing.{held-room-there, room-there}
use Rattle.h2_session.proofs.session.Session.reset.Goals as goal

pub returns-then-is_some : goal.returns-then-is_some
returns-then-is_some c = λ r h s.
    let k : Kept = c.args.self.now in
    let violated : is_some k.state.violation ≡ true =
    sym (ap (λ (l : Kept). is_some l.state.violation) c.self.view_is) ∙ sym c.is_some.ensures ∙ c.if-is_some.true in
    reset-stands r k k h c.args.id c.args.code s (asked-live k c.args.id c.requires r h s) (same-itself k) (capacity-itself k) (rw violated refl)

pub hand_reset-requires-clause-room : goal.hand_reset-requires-clause-room
hand_reset-requires-clause-room c =
    let q = c.requires in room-there c.args.self.now (now q.0 q.1) q.2.holds c.args.id q.3

pub hand_reset-requires-clause-held : goal.hand_reset-requires-clause-held
hand_reset-requires-clause-held c = λ e.
    let q = c.requires in held-room-there c.args.self.now (now q.0 q.1) q.2.holds c.args.id q.3 e

pub returns : goal.returns
returns c = λ r h s.
    let k : Kept = c.args.self.now in
    let sound : is_some k.state.violation ≡ false =
    sym (ap (λ (l : Kept). is_some l.state.violation) c.self.view_is) ∙ sym c.is_some.ensures ∙ c.if-is_some.false in
    reset-stands r k c.hand_reset.new.self h c.args.id c.args.code s (asked-live k c.args.id c.requires r h s)
    c.hand_reset.ensures.same c.hand_reset.ensures.capacity (c.hand_reset.ensures.state ∙ rw sound refl)
