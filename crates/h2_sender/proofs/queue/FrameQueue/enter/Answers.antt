-- The new frame is counted.
use Rattle.std.proofs.Common.{arith, ◌≡◌, ◌≤◌, ◌+◌, ◌-◌, ◌^◌, ℕ, List, length, min, ap, subst, ◌∙◌}
use Rattle.std.specs.List.{sum_by}
use Rattle.h2_model.specs.Log.{stream_of}
use Rattle.h2_model.specs.Queue.{Waiting, placed, fresh, entered, data_in, queued}
use Rattle.h2_sender.specs.Queue.{Queue}
use Rattle.h2_sender.specs.Places.{IsFront}
use Rattle.h2_sender.specs.Shares.{AreShared, all_frames, frames_of, bytes_of, bytes_for, bytes_left, counted, counted_for}
use Rattle.h2_sender.specs.declared.shares.Share.{Share}
use Rattle.h2_sender.proofs.Shared.{bytes_within, counted_within, shared_entered}
use Rattle.h2_sender.proofs.Streams.{few}
use Rattle.h2_sender.proofs.Totals.{control_in, counted_entered}
use Rattle.h2_sender.proofs.queue.FrameQueue.enter.Goals as goal

pub count-requires-clause-room : goal.count-requires-clause-room
count-requires-clause-room c =
    let queue : List Waiting = c.self.inside.frames.items in
    let shares : List Share = c.self.inside.shares.items in
    let shared : AreShared queue shares = c.self.invariant.1 in
    let streams : length shares ≤ all_frames shares = few shares shared.order in
    let all : all_frames shares ≡ sum_by counted queue = shared.all in
    let frames : sum_by counted queue ≤ length queue = counted_within queue in
    let fits = c.self.invariant.2.shares in
    let here = ap (λ (q : Queue). q.room) c.self.view_is in
    let room = c.requires.room in
    omega arith

pub count-requires-clause-few : goal.count-requires-clause-few
count-requires-clause-few c =
    let queue : List Waiting = c.self.inside.frames.items in
    let shares : List Share = c.self.inside.shares.items in
    let shared : AreShared queue shares = c.self.invariant.1 in
    let all : all_frames shares ≡ sum_by counted queue = shared.all in
    let frames : sum_by counted queue ≤ length queue = counted_within queue in
    let here = ap (λ (q : Queue). q.room) c.self.view_is in
    let room = c.requires.room in
    let fits = c.self.invariant.2.frames in
    let small = c.self.inside.frames.small.0 in
    omega arith

pub count-requires-clause-bound : goal.count-requires-clause-bound
count-requires-clause-bound c =
    let queue : List Waiting = c.self.inside.frames.items in
    let shares : List Share = c.self.inside.shares.items in
    let id : ℕ = stream_of c.fresh-new.result.frame in
    let is : bytes_of id shares ≡ sum_by (bytes_for id) queue = c.self.invariant.1.bytes id in
    let part : sum_by (bytes_for id) queue ≤ queued 0 queue = bytes_within id queue in
    let more : bytes_left c.fresh-new.result ≤ data_in 0 c.args.frame = rw c.fresh-new.ensures (omega arith) in
    let before = ap (λ (q : Queue). queued 0 q.frames) c.self.view_is in
    let bound = c.requires.bound in
    omega arith

pub invariant_of-self : goal.invariant_of-self
invariant_of-self c =
    let queue : List Waiting = c.self.inside.frames.items in
    let items : c.place-self-inside.new.frames.items ≡ entered c.args.frame queue =
    c.place-self-inside.ensures.items
    ∙ ap (λ (w : Waiting). placed w c.make_ready-front.new.frames.items) c.fresh-new.ensures
    ∙ ap (placed (fresh c.args.frame)) c.make_ready-front.ensures.items in
    let content : c.self.inside.«data» ≡ queued 0 queue = c.self.invariant.0.counted in
    let before = ap (λ (q : Queue). queued 0 q.frames) c.self.view_is in
    let bound : c.self.inside.«data» + data_in 0 c.args.frame ≤ 2 ^ 40 = omega arith in
    let front : IsFront c.place-self-inside.result (entered c.args.frame queue) = subst (IsFront c.place-self-inside.result) items c.place-self-inside.ensures.front in
    let control : c.saturating_add-self-inside.result ≡ min (c.self.inside.control + control_in (fresh c.args.frame)) (2 ^ 64 - 1) =
    c.saturating_add-self-inside.ensures ∙ ap (λ (k : ℕ). min (c.self.inside.control + k) (2 ^ 64 - 1)) (c.control.ensures ∙ ap control_in c.fresh-new.ensures) in
    let shares : List Share = c.self.inside.shares.items in
    let next : List Share = c.count.new.shares.items in
    let frames : (n : ℕ) → frames_of n next ≡ frames_of n shares + counted_for n (fresh c.args.frame) =
    λ n. c.count.ensures.frames n ∙ ap (λ w. frames_of n shares + counted_for n w) c.fresh-new.ensures in
    let bytes : (n : ℕ) → bytes_of n next ≡ bytes_of n shares + bytes_for n (fresh c.args.frame) =
    λ n. c.count.ensures.bytes n ∙ ap (λ w. bytes_of n shares + bytes_for n w) c.fresh-new.ensures in
    let all : all_frames next ≡ all_frames shares + counted (fresh c.args.frame) = c.count.ensures.all ∙ ap (λ w. all_frames shares + counted w) c.fresh-new.ensures in
    let shared : AreShared (entered c.args.frame queue) next = shared_entered c.args.frame queue shares next c.self.invariant.1 c.count.ensures.order frames bytes all in
    let here = ap (λ (q : Queue). q.room) c.self.view_is in
    let room = c.requires.room in
    let old = c.self.invariant.2 in
    let most = old.frames in
    let least = old.shares in (
      rw items (rw c.data_in-added.ensures (rw control (counted_entered c.args.frame queue c.self.inside.«data» c.self.inside.control c.self.inside.front c.place-self-inside.result c.self.invariant.0 bound front))),
      rw items shared,
      record { few = omega arith; frames = omega arith; shares = omega arith },
    )
