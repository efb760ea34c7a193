-- The next number is opened where one is left.
use Rattle.std.proofs.Common.{◌<◌, length, refl, sym, ◌∙◌, ap, subst, [], ◌∷◌, ◌++◌, le_refl}
use Rattle.h2_model.specs.Calls.{kept_streams, now}
use Rattle.h2_session.specs.Keeping.{leaves_a_stream}
use Rattle.h2_session.proofs.Parts.{opening-is}
use Rattle.h2_model.specs.Moves.{new_stream}
use Rattle.h2_session.proofs.Standing.{asked-client, open-stands}
use Rattle.h2_laws_kept.proofs.Opens.{can-open-is, streams-below, table-room-there}
use Rattle.h2_laws_kept.specs.StandsFor.{StandsFor}
use Rattle.h2_session.specs.contracts.session.Session.{the_view}
use Rattle.h2_laws_kept.specs.Kept.{Kept}
use Rattle.h2_session.proofs.session.Session.open.Goals as goal

pub returns-then-not-may_open-clause-none : goal.returns-then-not-may_open-clause-none
returns-then-not-may_open-clause-none c = λ r h s.
    let k : Kept = c.args.self.now in
    can-open-is k (now r h) s.holds (asked-client k c.requires r h s).0 ∙ sym c.may_open.ensures ∙ c.if-not-may_open.true

pub open-requires : goal.open-requires
open-requires c =
    let k : Kept = c.args.self.now in
    let q = c.requires in
    let may = asked-client k q q.0 q.1 q.2 in
    subst (λ n. 0 < n) (sym (ap (λ (l : Kept). l.table_room) c.self.view_is)) (table-room-there k (now q.0 q.1) q.2.holds may.0 may.1)

pub returns-clause-opens : goal.returns-clause-opens
returns-clause-opens c = λ r h s.
    let k : Kept = c.args.self.now in
    let client = (asked-client k c.requires r h s).0 in (
      can-open-is k (now r h) s.holds client ∙ sym c.may_open.ensures ∙ c.if-not-may_open.false,
      c.next-id.ensures ∙ ap (λ (l : Kept). l.numbers.next) c.self.view_is ∙ s.holds.streams.count (s.holds.role ∙ client),
    )

pub returns-clause-stands : goal.returns-clause-stands
returns-clause-stands c = λ r h s.
    let k : Kept = the_view c.self.inside in
    let stands : StandsFor r k h = subst (λ (l : Kept). StandsFor r l h) (sym c.self.view_is) s in
    let may = asked-client c.args.self.now c.requires r h s in
    let few : length (kept_streams (now r h)) < k.streams =
    subst (λ (l : Kept). length (kept_streams (now r h)) < l.streams) (sym c.self.view_is) may.1 in
    let left = ap (λ (l : Kept). leaves_a_stream l) c.self.view_is ∙ sym c.may_open.ensures ∙ c.if-not-may_open.false in
    let added = c.open.ensures.streams (λ i d m. rw c.next-id.ensures (streams-below k (now r h) stands.holds may.0 i d m)) in
    open-stands r k _ h stands (may.0, few) left
    (record { client = refl; streams = refl; greeted = refl; reader = refl; fault = refl; entries = refl }) refl
    c.open_next.ensures
    (opening-is k.numbers.next k.state _ (added ∙ ap (λ n. k.state.streams ++ new_stream n ∷ []) c.next-id.ensures))
    (record { queue = le_refl _; held = le_refl _; table = c.open.ensures.capacity })
