-- All of a stream is in its share.
use Rattle.std.proofs.Common.{arith, sym, ap, ◌∙◌}
use Rattle.h2_sender.proofs.Streams.{at_within, share_at, no_share}
use Rattle.h2_sender.proofs.shares.bytes_of.Goals as goal

pub index-requires : goal.index-requires
index-requires c = let within = at_within c.args.id c.in-Ok.at c.args.shares.now.items c.in-Ok.ensures.at in omega arith

pub returns-in-Ok : goal.returns-in-Ok
returns-in-Ok c =
    ap (λ s. s.bytes) c.index.ensures
    ∙ sym (share_at (λ s. s.bytes) c.args.id c.in-Ok.at c.args.shares.now.items c.index.result.now c.requires c.in-Ok.ensures.at)

pub returns-in-Err : goal.returns-in-Err
returns-in-Err c = sym (no_share (λ s. s.bytes) c.args.id c.in-Err.field-0 c.args.shares.now.items c.requires c.in-Err.ensures.gap)
