-- HEADERS release what was held for them.
use Rattle.std.proofs.Common.{◌≡◌, ◌<◌, ◌+◌, ◌^◌, true, false, length, ◌∙◌, ap, sym, arith, filter, not, subst}
use Rattle.h2_frames.specs.declared.frame.Frame.TheVariants as frame
use Rattle.h2_model.specs.History.{is_of}
use Rattle.h2_laws_log.specs.Calling.{all_entered}
use Rattle.h2_session.specs.Keeping.{heading_as}
use Rattle.h2_laws_kept.proofs.Heads.{length-all-entered}
use Rattle.h2_session.proofs.Parts.{head-first, head-later}
use Rattle.h2_laws_kept.proofs.Sums.{length-entered, length-filtered}
use Rattle.h2_session.specs.contracts.session.Session.{the_view}
use Rattle.h2_laws_kept.specs.Kept.{Kept, lacks_head}
use Rattle.h2_session.proofs.session.Session.hand_head.Goals as goal

pub overflow_add-self : goal.overflow_add-self
overflow_add-self c =
    let low : c.args.id < 2 ^ 31 = c.is_headless-first.ensures.bound c.if-first.true in
    omega arith

pub release-requires : goal.release-requires
release-requires c =
    let one = length-entered (frame.Headers c.args.id c.args.block c.args.end true) c.self.inside.sender.waiting in
    let queue = ap length c.enter.ensures.waiting in
    let room = c.enter.ensures.capacity in
    let fewer = length-filtered (is_of c.args.id) c.enter.new.self.held in
    let held = ap length c.enter.ensures.held in
    let rooms = ap (λ (k : Kept). k.room) c.self.view_is in
    let helds = ap (λ (k : Kept). length k.state.held) c.self.view_is in
    let some = c.requires.room in
    omega arith

pub returns-then-first-clause-state : goal.returns-then-first-clause-state
returns-then-first-clause-state c =
    let id = c.args.id in
    let k : Kept = the_view c.self.inside in
    let lacking : lacks_head id k ≡ true = ap (lacks_head id) c.self.view_is ∙ sym c.is_headless-first.ensures.value ∙ c.if-first.true in
    let known : k.state.known ≡ k.state.limit = subst (λ (l : Kept). l.state.known ≡ l.state.limit) (sym c.self.view_is) c.requires.known in
    head-first id c.args.block c.args.end k.state _ _ _ _ (lacks_head id k) lacking known
    (c.release.ensures.window ∙ c.enter.ensures.window) (c.change.ensures.streams (λ t e. tt))
    (c.release.ensures.waiting ∙ (λ i. all_entered (filter (is_of id) (c.enter.ensures.held i)) (c.enter.ensures.waiting i)))
    (c.release.ensures.held ∙ ap (filter (λ e. not (is_of id e))) c.enter.ensures.held)
    ∙ ap (λ (l : Kept). heading_as (lacks_head id l) id (frame.Headers id c.args.block c.args.end true) l.state) c.self.view_is

pub returns-then-first-clause-capacity : goal.returns-then-first-clause-capacity
returns-then-first-clause-capacity c =
    let entered = c.enter.ensures.capacity in
    let held = c.enter.ensures.held_capacity in
    let released = c.release.ensures.room in
    let kept = c.release.ensures.held_capacity in
    let more = length-all-entered (filter (is_of c.args.id) c.enter.new.self.held) c.enter.new.self.waiting in
    let queue = ap length c.release.ensures.waiting in
    let streams = c.change.ensures.capacity in
    let was = ap (λ (k : Kept). k.room + length k.state.waiting) c.self.view_is in
    let was_held = ap (λ (k : Kept). k.held_room + length k.state.held) c.self.view_is in
    let was_table = ap (λ (k : Kept). k.table_room + length k.state.streams) c.self.view_is in
    record { queue = omega arith; held = omega arith; table = omega arith }

pub returns-else-first-clause-state : goal.returns-else-first-clause-state
returns-else-first-clause-state c =
    let id = c.args.id in
    let k : Kept = the_view c.self.inside in
    let lacking : lacks_head id k ≡ false = ap (lacks_head id) c.self.view_is ∙ sym c.is_headless-first.ensures.value ∙ c.if-first.false in
    let known : k.state.known ≡ k.state.limit = subst (λ (l : Kept). l.state.known ≡ l.state.limit) (sym c.self.view_is) c.requires.known in
    head-later id c.args.block c.args.end k.state _ _ _ _ (lacks_head id k) lacking known c.enter.ensures.window
    (c.change.ensures.streams (λ t e. tt)) c.enter.ensures.waiting c.enter.ensures.held
    ∙ ap (λ (l : Kept). heading_as (lacks_head id l) id (frame.Headers id c.args.block c.args.end true) l.state) c.self.view_is
