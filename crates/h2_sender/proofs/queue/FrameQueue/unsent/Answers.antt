-- The stream's share.
use Rattle.std.proofs.Common.{arith, ◌≡◌, ◌≤◌, ◌^◌, List, ap, ◌∙◌}
use Rattle.std.specs.List.{sum_by}
use Rattle.h2_model.specs.Queue.{Waiting, queued, unsent}
use Rattle.h2_sender.specs.Queue.{Queue}
use Rattle.h2_sender.specs.Shares.{bytes_of, bytes_for}
use Rattle.h2_sender.proofs.Shared.{bytes_within, unsent_shared}
use Rattle.h2_sender.proofs.queue.FrameQueue.unsent.Goals as goal

pub returns-clause-count : goal.returns-clause-count
returns-clause-count c =
    c.bytes_of.ensures ∙ c.self.invariant.1.bytes c.args.stream ∙ unsent_shared c.args.stream c.self.inside.frames.items c.requires
    ∙ ap (λ (q : Queue). unsent c.args.stream q.frames) c.self.view_is

pub returns-clause-bound : goal.returns-clause-bound
returns-clause-bound c =
    let queue : List Waiting = c.self.inside.frames.items in
    let share : c.bytes_of.result ≡ bytes_of c.args.stream c.self.inside.shares.items = c.bytes_of.ensures in
    let is : bytes_of c.args.stream c.self.inside.shares.items ≡ sum_by (bytes_for c.args.stream) queue = c.self.invariant.1.bytes c.args.stream in
    let one : sum_by (bytes_for c.args.stream) queue ≤ queued 0 queue = bytes_within c.args.stream queue in
    let counted : c.self.inside.«data» ≡ queued 0 queue = c.self.invariant.0.counted in
    let bound : c.self.inside.«data» ≤ 2 ^ 40 = c.self.invariant.0.bound in
    omega arith
