-- The stream's share.
use Rattle.std.proofs.Common.{nat_lt, ap, ◌∙◌}
use Rattle.std.specs.List.{list_any}
use Rattle.h2_sender.specs.Queue.{Queue, waits_for}
use Rattle.h2_sender.proofs.Shared.{waits_shared}
use Rattle.h2_sender.proofs.queue.FrameQueue.waits.Goals as goal

pub returns : goal.returns
returns c =
    ap (nat_lt 0) (c.frames_of.ensures ∙ c.self.invariant.1.frames c.args.stream) ∙ waits_shared c.args.stream c.self.inside.frames.items
    ∙ ap (λ (q : Queue). list_any (waits_for c.args.stream) q.frames) c.self.view_is
