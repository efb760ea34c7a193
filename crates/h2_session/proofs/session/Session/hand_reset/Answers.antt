-- RST_STREAM follows what the reset drops.
use Rattle.std.proofs.Common.{◌≡◌, ◌≤◌, ◌<◌, true, false, ◌∷◌, [], ◌++◌, ◌∙◌, ap, sym, arith, pos, ◌-ℤ◌}
use Rattle.h2_frames.specs.declared.frame.Frame.TheVariants as frame
use Rattle.h2_model.specs.Log.{Handed}
use Rattle.h2_model.specs.Queue.{entered}
use Rattle.h2_model.specs.State.{State}
use Rattle.h2_model.specs.Moves.{resetting}
use Rattle.h2_session.proofs.Parts.{lacks-client, lacks-same, over-room, reset-held, reset-queued}
use Rattle.h2_session.specs.contracts.session.Session.{the_view}
use Rattle.h2_laws_kept.specs.Kept.{Kept, lacks_head}
use Rattle.h2_session.proofs.session.Session.hand_reset.Goals as goal

pub hold-requires-clause-room : goal.hold-requires-clause-room
hold-requires-clause-room c =
    let lacking : lacks_head c.args.id c.args.self.now ≡ true =
    sym (lacks-same c.args.self.now c.over.new.self c.over.ensures.same c.args.id) ∙ sym c.is_headless.ensures.value ∙ c.if-is_headless.true in
    let some : 0 < c.args.self.now.held_room = c.requires.held (lacks-client c.args.id c.args.self.now lacking) in
    let kept : c.args.self.now.held_room ≤ c.over.new.self.held_room =
    (over-room c.args.self.now c.over.new.self c.args.id c.over.ensures.capacity c.over.ensures.state).1 in
    let same : c.self.inside.sender.held_room ≡ c.over.new.self.held_room = ap (λ (k : Kept). k.held_room) c.self.view_is in
    omega arith

pub enter-requires-clause-room : goal.enter-requires-clause-room
enter-requires-clause-room c =
    let some : 0 < c.args.self.now.room = c.requires.room in
    let kept : c.args.self.now.room ≤ c.over.new.self.room =
    (over-room c.args.self.now c.over.new.self c.args.id c.over.ensures.capacity c.over.ensures.state).0 in
    let same : c.self.inside.sender.room ≡ c.over.new.self.room = ap (λ (k : Kept). k.room) c.self.view_is in
    omega arith

pub returns-then-is_headless-clause-state : goal.returns-then-is_headless-clause-state
returns-then-is_headless-clause-state c =
    let id = c.args.id in
    let old : Kept = c.args.self.now in
    let k : Kept = the_view c.self.inside in
    let is : k.state ≡ resetting id old.state = ap (λ (l : Kept). l.state) c.self.view_is ∙ c.over.ensures.state in
    let lacking : lacks_head id old ≡ true =
    sym (lacks-same old c.over.new.self c.over.ensures.same id) ∙ sym c.is_headless.ensures.value ∙ c.if-is_headless.true in
    ap (λ (s : State). record s { window = c.hold.new.self.window; waiting = c.hold.new.self.waiting; held = c.hold.new.self.held }) is
    ∙ reset-held id c.args.code old.state _ _ _ (lacks_head id old) lacking
    (c.hold.ensures.window ∙ ap (λ (s : State). s.window -ℤ pos 0) is)
    (c.hold.ensures.waiting ∙ ap (λ (s : State). s.waiting) is)
    (c.hold.ensures.held ∙ ap (λ (s : State). s.held ++ Handed (frame.Reset id c.args.code) ∷ []) is)

pub returns-else-is_headless-clause-state : goal.returns-else-is_headless-clause-state
returns-else-is_headless-clause-state c =
    let id = c.args.id in
    let old : Kept = c.args.self.now in
    let k : Kept = the_view c.self.inside in
    let is : k.state ≡ resetting id old.state = ap (λ (l : Kept). l.state) c.self.view_is ∙ c.over.ensures.state in
    let lacking : lacks_head id old ≡ false =
    sym (lacks-same old c.over.new.self c.over.ensures.same id) ∙ sym c.is_headless.ensures.value ∙ c.if-is_headless.false in
    ap (λ (s : State). record s { window = c.enter.new.self.window; waiting = c.enter.new.self.waiting; held = c.enter.new.self.held }) is
    ∙ reset-queued id c.args.code old.state _ _ _ (lacks_head id old) lacking
    (c.enter.ensures.window ∙ ap (λ (s : State). s.window -ℤ pos 0) is)
    (c.enter.ensures.waiting ∙ ap (λ (s : State). entered (frame.Reset id c.args.code) s.waiting) is)
    (c.enter.ensures.held ∙ ap (λ (s : State). s.held) is)
