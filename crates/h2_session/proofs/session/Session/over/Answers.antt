-- What a reset leaves, part by part.
use Rattle.std.proofs.Common.{◌≡◌, ◌∙◌, ap, arith, length, not}
use Rattle.h2_model.specs.Moves.{resetting, is_dropped, is_dropped_entry}
use Rattle.h2_session.proofs.Parts.{over-is}
use Rattle.h2_session.specs.contracts.session.Session.{the_view}
use Rattle.h2_laws_kept.specs.Kept.{Kept}
use Rattle.h2_laws_kept.proofs.Sums.{length-filtered}
use Rattle.h2_session.proofs.session.Session.over.Goals as goal

pub returns-clause-state : goal.returns-clause-state
returns-clause-state c =
    let k : Kept = the_view c.self.inside in
    over-is c.args.id k.state _ _ _ _ c.drop_stream.ensures.window (c.change.ensures.streams (λ t e. tt))
    c.drop_stream.ensures.waiting c.drop_stream.ensures.held
    ∙ ap (λ (l : Kept). resetting c.args.id l.state) c.self.view_is

-- frames are dropped, and no capacity
pub returns-clause-rooms : goal.returns-clause-rooms
returns-clause-rooms c =
    let k : Kept = the_view c.self.inside in
    let same : k ≡ c.args.self.now = c.self.view_is in
    record {
      queue = omega (
        arith,
        ap (λ (l : Kept). l.room) same,
        c.drop_stream.ensures.capacity,
        ap length c.drop_stream.ensures.waiting,
        length-filtered (λ w. not (is_dropped c.args.id w)) k.state.waiting,
      );
      held = omega (
        arith,
        ap (λ (l : Kept). l.held_room) same,
        c.drop_stream.ensures.held_capacity,
        ap length c.drop_stream.ensures.held,
        length-filtered (λ e. not (is_dropped_entry c.args.id e)) k.state.held,
      );
    }
