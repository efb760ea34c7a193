-- A frame that is owed is held, or charged and enters the queue.
use Rattle.std.proofs.Common.{◌≡◌, ◌+◌, true, false, length, refl, sym, ◌∙◌, ap, arith}
use Rattle.h2_model.specs.Log.{stream_of}
use Rattle.h2_model.specs.Moves.{owing_frame}
use Rattle.h2_laws_kept.specs.Kept.{Kept, lacks_head}
use Rattle.h2_laws_kept.proofs.Sums.{length-entered}
use Rattle.h2_session.proofs.Charges.{window-kept}
use Rattle.h2_session.proofs.session.Session.owe.Goals as goal

pub returns-then-is_headless-clause-state : goal.returns-then-is_headless-clause-state
unfolding owing_frame
returns-then-is_headless-clause-state c =
    let lacks : lacks_head (stream_of c.args.frame) c.args.self.now ≡ true =
    ap (λ n. lacks_head n c.args.self.now) (sym c.stream_of.ensures) ∙ sym c.is_headless.ensures.value ∙ c.if-is_headless.true in
    rw (lacks, ← c.self.view_is, c.hold.ensures.waiting, c.hold.ensures.held, c.hold.ensures.window, window-kept c.args.frame c.self.inside.sender.window c.requires.owed) refl

pub returns-clause-state : goal.returns-clause-state
unfolding owing_frame
returns-clause-state c =
    let lacks : lacks_head (stream_of c.args.frame) c.args.self.now ≡ false =
    ap (λ n. lacks_head n c.args.self.now) (sym c.stream_of.ensures) ∙ sym c.is_headless.ensures.value ∙ c.if-is_headless.false in
    rw (
      lacks,
      ← c.charge.ensures.state,
      ← c.self-2.view_is,
      c.enter.ensures.waiting,
      c.enter.ensures.held,
      c.enter.ensures.window,
      window-kept c.args.frame c.self-2.inside.sender.window c.requires.owed,
    ) refl

pub returns-clause-room : goal.returns-clause-room
returns-clause-room c =
    let longer : length c.enter.new.self.waiting ≡ 1 + length c.self-2.inside.sender.waiting =
    ap length c.enter.ensures.waiting ∙ length-entered c.args.frame c.self-2.inside.sender.waiting in
    let same : c.self-2.inside.sender.room ≡ c.charge.new.self.room = ap (λ (k : Kept). k.room) c.self-2.view_is in
    omega (arith, longer, same, c.charge.ensures.room, c.enter.ensures.capacity)
