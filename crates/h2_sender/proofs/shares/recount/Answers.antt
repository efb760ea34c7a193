-- One frame more is counted.
use Rattle.std.proofs.Common.{arith, ◌≡◌, ◌≤◌, ◌<◌, ◌+◌, ◌^◌, ℕ, List, length, take, slice_index_or, ap, sym, ◌∙◌}
use Rattle.std.specs.List.{sum_by}
use Rattle.std.proofs.lemmas.List.Sums.{sum_by_more_le}
use Rattle.h2_model.specs.Log.{stream_of}
use Rattle.h2_model.specs.Queue.{Waiting, queued}
use Rattle.h2_sender.specs.Shares.{AreShared, all_frames, bytes_of, bytes_for, bytes_left, counted}
use Rattle.h2_sender.specs.declared.shares.Share.{Share}
use Rattle.h2_sender.proofs.Shared.{bytes_within, counted_within, own_bytes, take_few}
use Rattle.h2_sender.proofs.Streams.{few}
use Rattle.h2_sender.proofs.shares.recount.Goals as goal

pub count-requires-clause-room : goal.count-requires-clause-room
count-requires-clause-room c =
    let queue : List Waiting = c.args.frames.now.items in
    let shares : List Share = c.loop-i.shares.items in
    let shared : AreShared (take c.loop-i.i queue) shares = c.loop-i.invariant.0 in
    let streams : length shares ≤ all_frames shares = few shares shared.order in
    let all : all_frames shares ≡ sum_by counted (take c.loop-i.i queue) = shared.all in
    let frames : sum_by counted (take c.loop-i.i queue) ≤ length (take c.loop-i.i queue) = counted_within (take c.loop-i.i queue) in
    let first : length (take c.loop-i.i queue) ≤ c.loop-i.i = take_few c.loop-i.i queue in
    let room = c.loop-i.invariant.1 in
    omega arith

pub count-requires-clause-few : goal.count-requires-clause-few
count-requires-clause-few c =
    let queue : List Waiting = c.args.frames.now.items in
    let shares : List Share = c.loop-i.shares.items in
    let shared : AreShared (take c.loop-i.i queue) shares = c.loop-i.invariant.0 in
    let all : all_frames shares ≡ sum_by counted (take c.loop-i.i queue) = shared.all in
    let frames : sum_by counted (take c.loop-i.i queue) ≤ length (take c.loop-i.i queue) = counted_within (take c.loop-i.i queue) in
    let first : length (take c.loop-i.i queue) ≤ c.loop-i.i = take_few c.loop-i.i queue in
    omega arith

pub count-requires-clause-bound : goal.count-requires-clause-bound
count-requires-clause-bound c =
    let queue : List Waiting = c.args.frames.now.items in
    let shares : List Share = c.loop-i.shares.items in
    let shared : AreShared (take c.loop-i.i queue) shares = c.loop-i.invariant.0 in
    let w : Waiting = c.index.result.now in
    let id : ℕ = stream_of w.frame in
    let within : c.loop-i.i < length queue = omega arith in
    let so_far : bytes_of id shares ≡ sum_by (bytes_for id) (take c.loop-i.i queue) = shared.bytes id in
    let next : sum_by (bytes_for id) (take c.loop-i.i queue) + bytes_for id (slice_index_or queue c.loop-i.i w) ≤ sum_by (bytes_for id) queue = sum_by_more_le (bytes_for id) queue c.loop-i.i w within in
    let here : bytes_left w ≡ bytes_for id (slice_index_or queue c.loop-i.i w) = sym (own_bytes w) ∙ ap (bytes_for id) c.index.ensures in
    let whole : sum_by (bytes_for id) queue ≤ queued 0 queue = bytes_within id queue in
    let bound : queued 0 queue ≤ 2 ^ 40 = c.requires.bound in
    omega arith
