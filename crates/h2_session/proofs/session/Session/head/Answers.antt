-- The block is the encoder's, and goes out where nothing was violated.
use Rattle.std.proofs.Common.{◌≡◌, ◌+◌, [], length, true, false, is_some, sym, ◌∙◌, ap, subst}
use Rattle.h2_session.proofs.Parts.{resized-empty}
use Rattle.h2_session.proofs.Standing.{asked-head, head-stands, head-violated, roomier}
use Rattle.h2_laws_kept.specs.Rooms.{HasSpare}
use Rattle.h2_laws_kept.specs.StandsFor.{StandsFor}
use Rattle.h2_session.specs.contracts.session.Session.{the_view}
use Rattle.h2_laws_kept.specs.Kept.{Kept}
use Rattle.h2_session.proofs.session.Session.head.Goals as goal

pub returns-then-is_some-clause-stands : goal.returns-then-is_some-clause-stands
returns-then-is_some-clause-stands c = λ r h s.
    let k : Kept = c.args.self.now in
    let violated : is_some k.state.violation ≡ true =
    sym (ap (λ (l : Kept). is_some l.state.violation) c.self.view_is) ∙ sym c.is_some.ensures ∙ c.if-is_some.true in
    ([], head-violated r k h c.args.id c.args.fields.now [] c.args.end s (asked-head k c.args.id c.requires.may r h s) violated)

pub returns-clause-stands : goal.returns-clause-stands
returns-clause-stands c = λ r h s.
    let old : Kept = c.args.self.now in
    let made : Kept = c.make_room.new.self in
    let k : Kept = the_view c.self-2.inside in
    let same : k ≡ made = c.self-2.view_is in
    let roomy : StandsFor r made h = roomier r old made h s c.make_room.ensures.state c.make_room.ensures.same c.make_room.ensures.rooms in
    let stands : StandsFor r k h = subst (λ (l : Kept). StandsFor r l h) (sym same) roomy in
    let sound : is_some k.state.violation ≡ false =
    ap (λ (l : Kept). is_some l.state.violation) same ∙ ap (λ l. is_some l.violation) c.make_room.ensures.state
    ∙ sym (ap (λ (l : Kept). is_some l.state.violation) c.self.view_is) ∙ sym c.is_some.ensures ∙ c.if-is_some.false in
    let count : c.held_frames-frames.result ≡ length k.state.held =
    c.held_frames-frames.ensures.count ∙ ap (λ (l : Kept). length l.state.held) c.self.view_is
    ∙ sym (ap (λ l. length l.held) c.make_room.ensures.state) ∙ sym (ap (λ (l : Kept). length l.state.held) same) in
    let spare : HasSpare (length k.state.held + 1) k =
    subst (λ (l : Kept). HasSpare (length k.state.held + 1) l) (sym same)
    (subst (λ n. HasSpare (n + 1) made) count c.in_ok-make_room.ensures.room) in
    let table = c.in_ok-block.ensures.table in
    let m : Kept = record k {
      state = record k.state { known = c.block.new.self.table.limit; limit = c.block.new.self.limit };
      entries = c.block.new.self.table.entries;
    } in
    let entries : m.entries ≡ k.entries =
    ap (λ t. t.entries) table ∙ resized-empty k.state.limit c.self-2.inside.encoder.table stands.holds.encodes in
    let is : m ≡ record k { state = record k.state { known = k.state.limit } } = λ i. record k {
      state = record k.state { known = (table i).limit; limit = c.block.ensures.limit i };
      entries = entries i;
    } in (
      c.in_ok-block.block,
      head-stands r k m c.hand_head.new.self h c.args.id c.args.fields.now c.in_ok-block.block c.args.end
          stands (asked-head old c.args.id c.requires.may r h s) sound c.in_ok-block.ensures.written spare is
          c.hand_head.ensures.state c.hand_head.ensures.headless c.hand_head.ensures.beside c.hand_head.ensures.numbers c.hand_head.ensures.capacity,
    )
