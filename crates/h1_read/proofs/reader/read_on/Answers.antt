use Rattle.std.proofs.Common.{arith, ◌∙◌, ap}
use Rattle.h1_read.specs.Places.{places}
use Rattle.h1_read.specs.declared.place.Place.TheVariants.{Before}
use Rattle.h1_read.proofs.FeedLaw.{along_starts, along_goes_on, along_ends, along_got, along_fails, IsCut}
use Rattle.h1_read.proofs.reader.read_on.Goals as goal

pub stops-init : goal.stops-init
stops-init c = along_starts c.args.direction c.args.to_head c.args.kept.items c.args.bytes.now c.args.place c.requires.begun c.requires.here

pub returns-in-Quiet : goal.returns-in-Quiet
returns-in-Quiet c =
    along_ends c.args.direction c.args.to_head c.args.kept.items c.args.bytes.now c.stops.kept.items c.extend_from_slice.new.self.items c.behind-rest.result.now
    c.stops.place c.in-Quiet.end c.stops.at c.stops.invariant c.behind-rest.ensures c.in-Quiet.ensures.0 (omega (arith, c.len.ensures, c.in-Quiet.ensures.1))
    c.in_ok-extend_from_slice-in-Quiet.ensures.items

pub returns-in-Ok-Some : goal.returns-in-Ok-Some
returns-in-Ok-Some c =
    let rest = c.behind-rest.result.now in
    let part = c.split_at.result.0.now in
    let cut : IsCut c.args.bytes.now c.stops.at c.in-Stop.n rest part = record { behind = c.behind-rest.ensures; stop = c.in-Stop.ensures; front = c.split_at.ensures.front } in
    along_got c.args.direction c.args.to_head c.args.kept.items c.args.bytes.now c.stops.kept.items rest part c.stops.place c.stops.at c.in-Stop.n c.in-Ok-Some.used c.in-Ok-Some.message
    c.stops.invariant cut (rw c.in-Ok-Some.field-0-is at c.in-Ok-Some.ensures.fed).0

pub stops-preserved : goal.stops-preserved
stops-preserved c =
    let rest = c.behind-rest.result.now in
    let part = c.split_at.result.0.now in
    let cut : IsCut c.args.bytes.now c.stops.at c.in-Stop.n rest part = record { behind = c.behind-rest.ensures; stop = c.in-Stop.ensures; front = c.split_at.ensures.front } in
    along_goes_on c.args.direction c.args.to_head c.args.kept.items c.args.bytes.now c.stops.kept.items c.feed_bytes.new.kept.items rest part c.stops.place c.place_behind-place.result
    c.stops.at c.in-Stop.n c.stops.invariant cut (rw c.in-Ok-None.field-0-is at c.in-Ok-None.ensures.fed) c.in-Ok-None.ensures.still
    (c.place_behind-place.ensures ∙ ap (places Before) c.as_slice.ensures.value)

pub returns-in-Err : goal.returns-in-Err
returns-in-Err c =
    let rest = c.behind-rest.result.now in
    let part = c.split_at.result.0.now in
    let cut : IsCut c.args.bytes.now c.stops.at c.in-Stop.n rest part = record { behind = c.behind-rest.ensures; stop = c.in-Stop.ensures; front = c.split_at.ensures.front } in
    along_fails c.args.direction c.args.to_head c.args.kept.items c.args.bytes.now c.stops.kept.items c.feed_bytes.new.kept.items rest part c.stops.place c.stops.at c.in-Stop.n c.in-Err.fault
    c.stops.invariant cut c.in-Err.ensures.fed
