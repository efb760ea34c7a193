-- The bytes are handed over, as many as may go.
use Rattle.std.proofs.Common.{◌≡◌, ℕ, List, Some, take, length, true, false, is_some, sym, ◌∙◌, ap, subst, refl, arith, length-take}
use Rattle.h2_frames.specs.declared.frame.Frame.TheVariants as frame
use Rattle.h2_model.specs.Moves.{handing}
use Rattle.h2_model.specs.State.{found}
use Rattle.h2_session.proofs.Standing.{asked-open, roomier, send-nothing, send-stands, send-violated, some-taken}
use Rattle.h2_streams.specs.Changes.{Allows}
use Rattle.h2_streams.specs.declared.changes.Change.TheVariants.{DataSent}
use Rattle.h2_laws_kept.specs.Kept.{Kept, lacks_head}
use Rattle.h2_laws_kept.specs.StandsFor.{StandsFor}
use Rattle.h2_session.proofs.session.Session.send.Goals as goal

pub returns-then-n-eq0-clause-stands : goal.returns-then-n-eq0-clause-stands
returns-then-n-eq0-clause-stands c = λ r h s.
    let k : Kept = c.args.self.now in
    send-nothing r k h c.args.id 0 c.args.bytes.now s (asked-open k c.args.id c.requires r h s) (omega arith)
    (sym c.if-n-eq0.true ∙ c.sendable-n.ensures.count r h s) refl

pub returns-then-is_some-clause-stands : goal.returns-then-is_some-clause-stands
returns-then-is_some-clause-stands c = λ r h s.
    let k : Kept = c.args.self.now in
    let violated : is_some k.state.violation ≡ true =
    sym (ap (λ (l : Kept). is_some l.state.violation) c.self.view_is) ∙ sym c.is_some.ensures ∙ c.if-is_some.true in
    send-violated r k h c.args.id c.sendable-n.result c.args.bytes.now s (asked-open k c.args.id c.requires r h s)
    c.sendable-n.ensures.within (c.sendable-n.ensures.count r h s) violated

pub hand_data-requires-clause-short : goal.hand_data-requires-clause-short
hand_data-requires-clause-short c =
    let count = ap length (c.in_ok-content.ensures ∙ c.split_at.ensures.front) in
    omega (arith, count, length-take c.sendable-n.result c.args.bytes.now, c.sendable-n.ensures.short)

pub hand_data-requires-clause-window : goal.hand_data-requires-clause-window
hand_data-requires-clause-window c = λ some.
    let count = ap length (c.in_ok-content.ensures ∙ c.split_at.ensures.front) in
    let same : length c.in_ok-content.content ≡ c.sendable-n.result =
    omega (arith, count, length-take c.sendable-n.result c.args.bytes.now, c.sendable-n.ensures.within) in
    rw (same, c.make_room.ensures.state) (c.sendable-n.ensures.window (rw (← same) some))

pub hand_data-requires-clause-credit : goal.hand_data-requires-clause-credit
hand_data-requires-clause-credit c = λ t e.
    let count = ap length (c.in_ok-content.ensures ∙ c.split_at.ensures.front) in
    let same : c.sendable-n.result ≡ length c.in_ok-content.content =
    omega (arith, count, length-take c.sendable-n.result c.args.bytes.now, c.sendable-n.ensures.within) in
    let there : found c.args.id c.args.self.now.state.streams ≡ Some t =
    sym (ap (λ s. found c.args.id s.streams) c.make_room.ensures.state) ∙ e in
    subst (λ n. Allows (DataSent false n) t) same (c.sendable-n.ensures.credit t there)

pub returns-clause-stands : goal.returns-clause-stands
returns-clause-stands c = λ r h s.
    let k : Kept = c.args.self.now in
    let m : Kept = c.make_room.new.self in
    let n = c.sendable-n.result in
    let bytes = c.args.bytes.now in
    let stands : StandsFor r m h = roomier r k m h s c.make_room.ensures.state c.make_room.ensures.same c.make_room.ensures.rooms in
    let sound : is_some m.state.violation ≡ false =
    ap (λ l. is_some l.violation) c.make_room.ensures.state
    ∙ sym (ap (λ (l : Kept). is_some l.state.violation) c.self.view_is) ∙ sym c.is_some.ensures ∙ c.if-is_some.false in
    let is : c.in_ok-content.content ≡ take n bytes = c.in_ok-content.ensures ∙ c.split_at.ensures.front in
    send-stands r m c.hand_data.new.self h c.args.id n bytes stands (asked-open k c.args.id c.requires r h s)
    c.sendable-n.ensures.within (c.sendable-n.ensures.count r h s)
    (some-taken n bytes c.if-n-eq0.false c.sendable-n.ensures.within) sound c.in_ok-make_room.ensures.room
    c.hand_data.ensures.same c.hand_data.ensures.capacity
    (c.hand_data.ensures.state
    ∙ ap (λ (b : List ℕ). handing (lacks_head c.args.id m) (frame.Data c.args.id b false (length b)) m.state) is)
