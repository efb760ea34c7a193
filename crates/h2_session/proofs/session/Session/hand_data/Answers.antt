-- DATA takes its length of both windows.
use Rattle.std.proofs.Common.{◌≡◌, true, false, length, ◌∙◌, ap, sym}
use Rattle.h2_frames.specs.declared.frame.Frame.TheVariants as frame
use Rattle.h2_model.specs.Moves.{handing}
use Rattle.h2_session.proofs.Parts.{data-held, data-queued}
use Rattle.h2_session.specs.contracts.session.Session.{the_view}
use Rattle.h2_laws_kept.specs.Kept.{Kept, lacks_head}
use Rattle.h2_session.proofs.session.Session.hand_data.Goals as goal

pub returns-then-is_headless-clause-state : goal.returns-then-is_headless-clause-state
returns-then-is_headless-clause-state c =
    let id = c.args.id in
    let k : Kept = the_view c.self.inside in
    let lacking : lacks_head id k ≡ true = sym c.is_headless.ensures.value ∙ c.if-is_headless.true in
    data-held id c.args.content c.args.last _ k.state _ _ _ _ (lacks_head id k) lacking c.len-n.ensures c.hold.ensures.window
    (c.change.ensures.streams (λ t e. tt)) c.hold.ensures.waiting c.hold.ensures.held
    ∙ ap (λ (l : Kept). handing (lacks_head id l) (frame.Data id c.args.content c.args.last (length c.args.content)) l.state) c.self.view_is

pub returns-else-is_headless-clause-state : goal.returns-else-is_headless-clause-state
returns-else-is_headless-clause-state c =
    let id = c.args.id in
    let k : Kept = the_view c.self.inside in
    let lacking : lacks_head id k ≡ false = sym c.is_headless.ensures.value ∙ c.if-is_headless.false in
    data-queued id c.args.content c.args.last _ k.state _ _ _ _ (lacks_head id k) lacking c.len-n.ensures c.enter.ensures.window
    (c.change.ensures.streams (λ t e. tt)) c.enter.ensures.waiting c.enter.ensures.held
    ∙ ap (λ (l : Kept). handing (lacks_head id l) (frame.Data id c.args.content c.args.last (length c.args.content)) l.state) c.self.view_is
