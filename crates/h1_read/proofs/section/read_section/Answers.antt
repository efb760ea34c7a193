use Rattle.std.proofs.Common.{sym, arith}
use Rattle.h1_read.proofs.Limited.{room_in, whole_section, small, bad_section, crowded_section, over_section, open_section}
use Rattle.h1_read.proofs.section.read_section.Goals as goal

pub section_parse-requires : goal.section_parse-requires
section_parse-requires c = room_in c.front-front.result.now c.section_seen-seen.result.now c.section_seen-seen.ensures

pub overflow_cast-result : goal.overflow_cast-result
overflow_cast-result c =
    let below = small c.args.bytes.now c.front-front.result.now c.section_seen-seen.result.now c.in-Whole.len c.front-front.ensures c.section_seen-seen.ensures c.in-Whole.ensures.within.len_fits in
    omega arith

pub returns-then-is_crowded : goal.returns-then-is_crowded
returns-then-is_crowded c =
    crowded_section c.args.bytes.now c.front-front.result.now c.section_seen-seen.result.now c.front-front.ensures c.section_seen-seen.ensures (sym c.if-is_crowded.ensures) c.in-Partial.ensures

pub returns-then-bytes-lt-MAX_HEAD : goal.returns-then-bytes-lt-MAX_HEAD
returns-then-bytes-lt-MAX_HEAD c =
    open_section c.args.bytes.now c.front-front.result.now c.section_seen-seen.result.now c.front-front.ensures c.section_seen-seen.ensures (sym c.if-is_crowded.ensures) (omega arith) c.in-Partial.ensures

pub returns-in_ok-trailers-in-Whole : goal.returns-in_ok-trailers-in-Whole
returns-in_ok-trailers-in-Whole c =
    whole_section c.args.bytes.now c.front-front.result.now c.section_seen-seen.result.now c.section_parse.new.spans c.in-Whole.len c.in-Whole.count c.in_ok-trailers-in-Whole.trailers
    c.front-front.ensures c.section_seen-seen.ensures c.in-Whole.ensures c.in_ok-trailers-in-Whole.ensures

pub returns-else-bytes-lt-MAX_HEAD : goal.returns-else-bytes-lt-MAX_HEAD
returns-else-bytes-lt-MAX_HEAD c =
    over_section c.args.bytes.now c.front-front.result.now c.section_seen-seen.result.now c.front-front.ensures c.section_seen-seen.ensures (sym c.if-is_crowded.ensures) (omega arith) c.in-Partial.ensures

pub returns-in-Bad : goal.returns-in-Bad
returns-in-Bad c =
    bad_section c.args.bytes.now c.front-front.result.now c.section_seen-seen.result.now c.front-front.ensures c.section_seen-seen.ensures c.in-Bad.ensures
