-- A share grows, or begins.
use Rattle.std.proofs.Common.{arith, refl, ◌≡◌, ◌≤◌, ◌<◌, ◌+◌, List, length, slice_index_or, ap}
use Rattle.std.proofs.lemmas.List.Sums.{sum_by-set, get_or-le-sum_by}
use Rattle.h2_sender.specs.Shares.{bytes_of, all_frames}
use Rattle.h2_sender.specs.declared.shares.Share.{Share}
use Rattle.h2_sender.proofs.Streams.{at_within, gap_within, share_at, set_more, order_insert, order_set}
use Rattle.h2_sender.proofs.shares.add.Goals as goal

pub index-share-requires : goal.index-share-requires
index-share-requires c = let within = at_within c.args.id c.in-Ok.at c.args.shares.now.items c.in-Ok.ensures.at in omega arith

pub overflow_add-share : goal.overflow_add-share
overflow_add-share c =
    let shares : List Share = c.args.shares.now.items in
    let here : Share = c.index-share.result.now in
    let within : c.in-Ok.at < length shares = at_within c.args.id c.in-Ok.at shares c.in-Ok.ensures.at in
    let same : here.frames ≡ (slice_index_or shares c.in-Ok.at here).frames = ap (λ s. s.frames) c.index-share.ensures in
    let part : (slice_index_or shares c.in-Ok.at here).frames ≤ all_frames shares = get_or-le-sum_by (λ s. s.frames) shares c.in-Ok.at here within in
    let few = c.requires.few in
    omega arith

pub overflow_add-share-in-Ok : goal.overflow_add-share-in-Ok
overflow_add-share-in-Ok c =
    let shares : List Share = c.args.shares.now.items in
    let here : Share = c.index-share.result.now in
    let same : here.bytes ≡ (slice_index_or shares c.in-Ok.at here).bytes = ap (λ s. s.bytes) c.index-share.ensures in
    let whole : bytes_of c.args.id shares ≡ (slice_index_or shares c.in-Ok.at here).bytes = share_at (λ s. s.bytes) c.args.id c.in-Ok.at shares here c.requires.order c.in-Ok.ensures.at in
    let bound = c.requires.bound in
    omega arith

pub index_mut-requires : goal.index_mut-requires
index_mut-requires c = let within = at_within c.args.id c.in-Ok.at c.args.shares.now.items c.in-Ok.ensures.at in omega arith

pub put-requires-clause-place : goal.put-requires-clause-place
put-requires-clause-place c = gap_within c.args.id c.in-Err.at c.args.shares.now.items c.in-Err.ensures.gap

pub returns-in-Ok-clause-order : goal.returns-in-Ok-clause-order
returns-in-Ok-clause-order c =
    order_set c.args.id c.in-Ok.at (record { stream = c.args.id; frames = c.index-share.result.now.frames + 1; bytes = c.index-share.result.now.bytes + c.args.bytes })
    c.args.shares.now.items c.requires.order c.in-Ok.ensures.at refl (omega arith)

pub returns-in-Ok-clause-frames : goal.returns-in-Ok-clause-frames
returns-in-Ok-clause-frames c n =
    set_more (λ s. s.frames) c.args.id n c.in-Ok.at 1 (record { stream = c.args.id; frames = c.index-share.result.now.frames + 1; bytes = c.index-share.result.now.bytes + c.args.bytes })
    c.index-share.result.now c.args.shares.now.items c.in-Ok.ensures.at refl (ap (λ s. s.frames + 1) c.index-share.ensures)

pub returns-in-Ok-clause-bytes : goal.returns-in-Ok-clause-bytes
returns-in-Ok-clause-bytes c n =
    set_more (λ s. s.bytes) c.args.id n c.in-Ok.at c.args.bytes (record { stream = c.args.id; frames = c.index-share.result.now.frames + 1; bytes = c.index-share.result.now.bytes + c.args.bytes })
    c.index-share.result.now c.args.shares.now.items c.in-Ok.ensures.at refl (ap (λ s. s.bytes + c.args.bytes) c.index-share.ensures)

pub returns-in-Ok-clause-all : goal.returns-in-Ok-clause-all
returns-in-Ok-clause-all c =
    let shares : List Share = c.args.shares.now.items in
    let here : Share = c.index-share.result.now in
    let next : Share = record { stream = c.args.id; frames = here.frames + 1; bytes = here.bytes + c.args.bytes } in
    let set = sum_by-set (λ s. s.frames) shares c.in-Ok.at next here (at_within c.args.id c.in-Ok.at shares c.in-Ok.ensures.at) in
    let same : here.frames ≡ (slice_index_or shares c.in-Ok.at here).frames = ap (λ s. s.frames) c.index-share.ensures in
    omega arith

pub returns-in-Err-clause-order : goal.returns-in-Err-clause-order
returns-in-Err-clause-order c =
    rw c.put.ensures.items (order_insert c.args.id c.in-Err.at (record { stream = c.args.id; frames = 1; bytes = c.args.bytes }) c.args.shares.now.items c.requires.order c.in-Err.ensures.gap refl (omega arith))
