-- A share is smaller, or gone with its last frame.
use Rattle.std.proofs.Common.{arith, refl, ◌≡◌, ◌≤◌, ◌<◌, ◌-◌, List, slice_index_or, sym, ap, ◌∙◌, ◌==◌}
use Rattle.std.proofs.lemmas.List.Sums.{sum_by-set, sum_by-remove}
use Rattle.h2_sender.specs.Shares.{bytes_of, frames_of}
use Rattle.h2_sender.specs.declared.shares.Share.{Share}
use Rattle.h2_sender.proofs.Streams.{at_within, no_share, share_at, set_less, remove_less, nothing_less, order_set, order_remove, gone_is}
use Rattle.h2_sender.proofs.shares.remove.Goals as goal

-- A stream of which nothing waits

pub returns-in_default-clause-frames : goal.returns-in_default-clause-frames
returns-in_default-clause-frames c n =
    let none : frames_of c.args.id c.args.shares.now.items ≡ 0 = no_share (λ s. s.frames) c.args.id c.in_default.field-0 c.args.shares.now.items c.requires.order c.in_default.ensures.gap in
    let few : c.args.frames ≤ frames_of c.args.id c.args.shares.now.items = c.requires.frames in
    nothing_less (c.args.id == n) (frames_of n c.args.shares.now.items) c.args.frames (omega arith)

pub returns-in_default-clause-bytes : goal.returns-in_default-clause-bytes
returns-in_default-clause-bytes c n =
    let none : bytes_of c.args.id c.args.shares.now.items ≡ 0 = no_share (λ s. s.bytes) c.args.id c.in_default.field-0 c.args.shares.now.items c.requires.order c.in_default.ensures.gap in
    let few : c.args.bytes ≤ bytes_of c.args.id c.args.shares.now.items = c.requires.bytes in
    nothing_less (c.args.id == n) (bytes_of n c.args.shares.now.items) c.args.bytes (omega arith)

pub returns-in_default-clause-all : goal.returns-in_default-clause-all
returns-in_default-clause-all c =
    let none : frames_of c.args.id c.args.shares.now.items ≡ 0 = no_share (λ s. s.frames) c.args.id c.in_default.field-0 c.args.shares.now.items c.requires.order c.in_default.ensures.gap in
    let few : c.args.frames ≤ frames_of c.args.id c.args.shares.now.items = c.requires.frames in
    omega arith

pub index-share-requires : goal.index-share-requires
index-share-requires c = let within = at_within c.args.id c.in-Ok.at c.args.shares.now.items c.in-Ok.ensures.at in omega arith

-- Its last frame

pub returns-then-frames-share-clause-order : goal.returns-then-frames-share-clause-order
returns-then-frames-share-clause-order c = rw (gone_is c.remove.result _ (c.remove.ensures.succeeds c.index-share.result.now (omega (arith, at_within c.args.id c.in-Ok.at c.args.shares.now.items c.in-Ok.ensures.at))) c.remove.ensures.items) (order_remove c.in-Ok.at c.args.shares.now.items c.requires.order)

pub returns-then-frames-share-clause-frames : goal.returns-then-frames-share-clause-frames
returns-then-frames-share-clause-frames c n =
    rw (gone_is c.remove.result _ (c.remove.ensures.succeeds c.index-share.result.now (omega (arith, at_within c.args.id c.in-Ok.at c.args.shares.now.items c.in-Ok.ensures.at))) c.remove.ensures.items)
    (remove_less (λ s. s.frames) c.args.id n c.in-Ok.at c.args.frames c.index-share.result.now c.args.shares.now.items c.in-Ok.ensures.at
    (c.if-frames-share.true ∙ ap (λ s. s.frames) c.index-share.ensures))

pub returns-then-frames-share-clause-bytes : goal.returns-then-frames-share-clause-bytes
returns-then-frames-share-clause-bytes c n =
    let shares : List Share = c.args.shares.now.items in
    let here : Share = c.index-share.result.now in
    let all : frames_of c.args.id shares ≡ (slice_index_or shares c.in-Ok.at here).frames = share_at (λ s. s.frames) c.args.id c.in-Ok.at shares here c.requires.order c.in-Ok.ensures.at in
    let bytes : bytes_of c.args.id shares ≡ (slice_index_or shares c.in-Ok.at here).bytes = share_at (λ s. s.bytes) c.args.id c.in-Ok.at shares here c.requires.order c.in-Ok.ensures.at in
    let last : c.args.frames ≡ (slice_index_or shares c.in-Ok.at here).frames = c.if-frames-share.true ∙ ap (λ s. s.frames) c.index-share.ensures in
    rw (gone_is c.remove.result _ (c.remove.ensures.succeeds c.index-share.result.now (omega (arith, at_within c.args.id c.in-Ok.at c.args.shares.now.items c.in-Ok.ensures.at))) c.remove.ensures.items)
    (remove_less (λ s. s.bytes) c.args.id n c.in-Ok.at c.args.bytes here shares c.in-Ok.ensures.at (sym (c.requires.last (all ∙ sym last)) ∙ bytes))

pub returns-then-frames-share-clause-all : goal.returns-then-frames-share-clause-all
returns-then-frames-share-clause-all c =
    let shares : List Share = c.args.shares.now.items in
    let here : Share = c.index-share.result.now in
    let gone = sum_by-remove (λ s. s.frames) shares c.in-Ok.at here (at_within c.args.id c.in-Ok.at shares c.in-Ok.ensures.at) in
    let last : c.args.frames ≡ (slice_index_or shares c.in-Ok.at here).frames = c.if-frames-share.true ∙ ap (λ s. s.frames) c.index-share.ensures in
    rw (gone_is c.remove.result _ (c.remove.ensures.succeeds c.index-share.result.now (omega (arith, at_within c.args.id c.in-Ok.at c.args.shares.now.items c.in-Ok.ensures.at))) c.remove.ensures.items) (omega arith)

-- It is smaller

pub overflow_sub-share : goal.overflow_sub-share
overflow_sub-share c =
    let shares : List Share = c.args.shares.now.items in
    let here : Share = c.index-share.result.now in
    let all : frames_of c.args.id shares ≡ (slice_index_or shares c.in-Ok.at here).frames = share_at (λ s. s.frames) c.args.id c.in-Ok.at shares here c.requires.order c.in-Ok.ensures.at in
    let same : here.frames ≡ (slice_index_or shares c.in-Ok.at here).frames = ap (λ s. s.frames) c.index-share.ensures in
    let few : c.args.frames ≤ frames_of c.args.id shares = c.requires.frames in
    omega arith

pub overflow_sub-share-2 : goal.overflow_sub-share-2
overflow_sub-share-2 c =
    let shares : List Share = c.args.shares.now.items in
    let here : Share = c.index-share.result.now in
    let all : bytes_of c.args.id shares ≡ (slice_index_or shares c.in-Ok.at here).bytes = share_at (λ s. s.bytes) c.args.id c.in-Ok.at shares here c.requires.order c.in-Ok.ensures.at in
    let same : here.bytes ≡ (slice_index_or shares c.in-Ok.at here).bytes = ap (λ s. s.bytes) c.index-share.ensures in
    let few : c.args.bytes ≤ bytes_of c.args.id shares = c.requires.bytes in
    omega arith

pub index_mut-requires : goal.index_mut-requires
index_mut-requires c = let within = at_within c.args.id c.in-Ok.at c.args.shares.now.items c.in-Ok.ensures.at in omega arith

pub returns-clause-order : goal.returns-clause-order
returns-clause-order c =
    let shares : List Share = c.args.shares.now.items in
    let here : Share = c.index-share.result.now in
    let all : frames_of c.args.id shares ≡ (slice_index_or shares c.in-Ok.at here).frames = share_at (λ s. s.frames) c.args.id c.in-Ok.at shares here c.requires.order c.in-Ok.ensures.at in
    let same : here.frames ≡ (slice_index_or shares c.in-Ok.at here).frames = ap (λ s. s.frames) c.index-share.ensures in
    let few : c.args.frames ≤ frames_of c.args.id shares = c.requires.frames in
    let more : 0 < here.frames - c.args.frames = omega (arith, c.if-frames-share.false) in
    order_set c.args.id c.in-Ok.at (record { stream = c.args.id; frames = c.index-share.result.now.frames - c.args.frames; bytes = c.index-share.result.now.bytes - c.args.bytes }) shares c.requires.order c.in-Ok.ensures.at refl more

pub returns-clause-frames : goal.returns-clause-frames
returns-clause-frames c n =
    let shares : List Share = c.args.shares.now.items in
    let here : Share = c.index-share.result.now in
    let all : frames_of c.args.id shares ≡ (slice_index_or shares c.in-Ok.at here).frames = share_at (λ s. s.frames) c.args.id c.in-Ok.at shares here c.requires.order c.in-Ok.ensures.at in
    let same : here.frames ≡ (slice_index_or shares c.in-Ok.at here).frames = ap (λ s. s.frames) c.index-share.ensures in
    let few : c.args.frames ≤ frames_of c.args.id shares = c.requires.frames in
    set_less (λ s. s.frames) c.args.id n c.in-Ok.at c.args.frames (record { stream = c.args.id; frames = c.index-share.result.now.frames - c.args.frames; bytes = c.index-share.result.now.bytes - c.args.bytes }) here shares c.in-Ok.ensures.at refl (omega arith)

pub returns-clause-bytes : goal.returns-clause-bytes
returns-clause-bytes c n =
    let shares : List Share = c.args.shares.now.items in
    let here : Share = c.index-share.result.now in
    let all : bytes_of c.args.id shares ≡ (slice_index_or shares c.in-Ok.at here).bytes = share_at (λ s. s.bytes) c.args.id c.in-Ok.at shares here c.requires.order c.in-Ok.ensures.at in
    let same : here.bytes ≡ (slice_index_or shares c.in-Ok.at here).bytes = ap (λ s. s.bytes) c.index-share.ensures in
    let few : c.args.bytes ≤ bytes_of c.args.id shares = c.requires.bytes in
    set_less (λ s. s.bytes) c.args.id n c.in-Ok.at c.args.bytes (record { stream = c.args.id; frames = c.index-share.result.now.frames - c.args.frames; bytes = c.index-share.result.now.bytes - c.args.bytes }) here shares c.in-Ok.ensures.at refl (omega arith)

pub returns-clause-all : goal.returns-clause-all
returns-clause-all c =
    let shares : List Share = c.args.shares.now.items in
    let here : Share = c.index-share.result.now in
    let next : Share = (record { stream = c.args.id; frames = c.index-share.result.now.frames - c.args.frames; bytes = c.index-share.result.now.bytes - c.args.bytes }) in
    let all : frames_of c.args.id shares ≡ (slice_index_or shares c.in-Ok.at here).frames = share_at (λ s. s.frames) c.args.id c.in-Ok.at shares here c.requires.order c.in-Ok.ensures.at in
    let same : here.frames ≡ (slice_index_or shares c.in-Ok.at here).frames = ap (λ s. s.frames) c.index-share.ensures in
    let few : c.args.frames ≤ frames_of c.args.id shares = c.requires.frames in
    let set = sum_by-set (λ s. s.frames) shares c.in-Ok.at next here (at_within c.args.id c.in-Ok.at shares c.in-Ok.ensures.at) in
    omega arith
