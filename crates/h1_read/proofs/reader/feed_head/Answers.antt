use Rattle.std.proofs.Common.{arith}
use Rattle.h1_read.proofs.TurnLaw.{open_small}
use Rattle.h1_read.proofs.FeedLaw.{quiet_ends}
use Rattle.h1_read.proofs.reader.feed_head.Goals as goal

pub next_stop-requires : goal.next_stop-requires
next_stop-requires c = omega (arith, c.len.ensures, open_small c.args.direction c.args.kept.now.items c.requires.begun)

pub returns-in-Quiet-clause-fed : goal.returns-in-Quiet-clause-fed
returns-in-Quiet-clause-fed c =
    let w = quiet_ends c.args.direction c.args.to_head c.args.kept.now.items c.args.bytes.now c.extend_from_slice.new.self.items c.args.place.now c.in-Quiet.end c.requires.begun
    c.requires.here c.in-Quiet.ensures.0 (omega (arith, c.len.ensures, c.in-Quiet.ensures.1)) c.in_ok-extend_from_slice.ensures.items in
    w.on

pub returns-in-Quiet-clause-still : goal.returns-in-Quiet-clause-still
returns-in-Quiet-clause-still c =
    let w = quiet_ends c.args.direction c.args.to_head c.args.kept.now.items c.args.bytes.now c.extend_from_slice.new.self.items c.args.place.now c.in-Quiet.end c.requires.begun
    c.requires.here c.in-Quiet.ensures.0 (omega (arith, c.len.ensures, c.in-Quiet.ensures.1)) c.in_ok-extend_from_slice.ensures.items in
    w.still

pub returns-in-Quiet-clause-there : goal.returns-in-Quiet-clause-there
returns-in-Quiet-clause-there c =
    let w = quiet_ends c.args.direction c.args.to_head c.args.kept.now.items c.args.bytes.now c.extend_from_slice.new.self.items c.args.place.now c.in-Quiet.end c.requires.begun
    c.requires.here c.in-Quiet.ensures.0 (omega (arith, c.len.ensures, c.in-Quiet.ensures.1)) c.in_ok-extend_from_slice.ensures.items in
    w.there
