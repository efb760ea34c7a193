-- An end is handed over, but for after a violation.
use Rattle.std.proofs.Common.{◌≡◌, true, false, refl, sym, ◌∙◌, ap, is_some, length}
use Rattle.h2_frames.specs.declared.frame.Frame.TheVariants as frame
use Rattle.h2_model.specs.Calls.{now}
use Rattle.h2_model.specs.Moves.{handing}
use Rattle.h2_session.proofs.Standing.{asked-open, capacity-itself, finish-stands, same-itself}
use Rattle.h2_laws_kept.specs.Kept.{Kept, lacks_head}
use Rattle.h2_laws_kept.proofs.Finishes.{open-here-live}
use Rattle.h2_laws_kept.proofs.Handing.{held-room-there, room-there}
use Rattle.h2_session.proofs.session.Session.finish.Goals as goal

pub returns-then-is_some : goal.returns-then-is_some
returns-then-is_some c = λ r h s.
    let k : Kept = c.args.self.now in
    let violated : is_some k.state.violation ≡ true =
    sym (ap (λ (l : Kept). is_some l.state.violation) c.self.view_is) ∙ sym c.is_some.ensures ∙ c.if-is_some.true in
    finish-stands r k k h c.args.id s (asked-open k c.args.id c.requires r h s) (same-itself k) (capacity-itself k) (rw violated refl)

pub hand_data-requires-clause-room : goal.hand_data-requires-clause-room
hand_data-requires-clause-room c =
    let q = c.requires in
    room-there c.args.self.now (now q.0 q.1) q.2.holds c.args.id (open-here-live c.args.id (now q.0 q.1) q.3)

pub hand_data-requires-clause-held : goal.hand_data-requires-clause-held
hand_data-requires-clause-held c = λ e.
    let q = c.requires in
    held-room-there c.args.self.now (now q.0 q.1) q.2.holds c.args.id (open-here-live c.args.id (now q.0 q.1) q.3) e

pub returns : goal.returns
returns c = λ r h s.
    let k : Kept = c.args.self.now in
    let sound : is_some k.state.violation ≡ false =
    sym (ap (λ (l : Kept). is_some l.state.violation) c.self.view_is) ∙ sym c.is_some.ensures ∙ c.if-is_some.false in
    finish-stands r k c.hand_data-2.new.self h c.args.id s (asked-open k c.args.id c.requires r h s)
    c.hand_data-2.ensures.same c.hand_data-2.ensures.capacity
    (c.hand_data-2.ensures.state
    ∙ ap (λ bytes. handing (lacks_head c.args.id k) (frame.Data c.args.id bytes true (length bytes)) k.state) c.new.ensures
    ∙ rw sound refl)
