use Rattle.std.proofs.Common.{sym, refl, ap, ◌∙◌, arith}
use Rattle.http_model.specs.Heads.{status_line}
use Rattle.h1_read.specs.Limits.{is_crowded}
use Rattle.h1_read.proofs.LimitedHead.{begun, room, whole_response, bad_head, long_head, open_head, over_head}
use Rattle.h1_read.proofs.head.read_response.Goals as goal

pub response_parse-requires-clause-begun : goal.response_parse-requires-clause-begun
response_parse-requires-clause-begun c = begun c.front-front.result.now c.in-Some.at c.head_seen-seen.result.now c.in-Some.ensures c.head_seen-seen.ensures

pub response_parse-requires-clause-room : goal.response_parse-requires-clause-room
response_parse-requires-clause-room c = room status_line c.front-front.result.now c.in-Some.at c.head_seen-seen.result.now c.in-Some.ensures c.head_seen-seen.ensures

pub returns-then-is_crowded : goal.returns-then-is_crowded
returns-then-is_crowded c =
    long_head status_line c.args.bytes.now c.front-front.result.now c.in-Some.at c.head_seen-seen.result.now c.front-front.ensures c.in-Some.ensures c.head_seen-seen.ensures (sym (c.if-is_crowded.ensures ∙ ap is_crowded c.behind.ensures)) c.in-Partial.ensures

pub returns-then-bytes-lt-MAX_HEAD-2 : goal.returns-then-bytes-lt-MAX_HEAD-2
returns-then-bytes-lt-MAX_HEAD-2 c =
    open_head status_line c.args.bytes.now c.front-front.result.now c.in-Some.at c.head_seen-seen.result.now c.front-front.ensures c.head_seen-seen.ensures (sym (c.if-is_crowded.ensures ∙ ap is_crowded c.behind.ensures)) (omega arith) c.in-Partial.ensures

pub returns-else-bytes-lt-MAX_HEAD-2 : goal.returns-else-bytes-lt-MAX_HEAD-2
returns-else-bytes-lt-MAX_HEAD-2 c =
    over_head status_line c.args.bytes.now c.front-front.result.now c.in-Some.at c.head_seen-seen.result.now c.front-front.ensures c.head_seen-seen.ensures (sym (c.if-is_crowded.ensures ∙ ap is_crowded c.behind.ensures)) (omega arith) c.in-Partial.ensures

pub returns-in-Bad : goal.returns-in-Bad
returns-in-Bad c = bad_head status_line c.args.bytes.now c.front-front.result.now c.in-Some.at c.head_seen-seen.result.now c.front-front.ensures c.head_seen-seen.ensures c.in-Bad.ensures

pub returns-in_ok-fields-in-Whole : goal.returns-in_ok-fields-in-Whole
returns-in_ok-fields-in-Whole c =
    whole_response c.args.bytes.now c.front-front.result.now c.in-Some.at c.head_seen-seen.result.now c.response_parse.new.spans c.in-Whole.r (record { status = c.three_digits-status.result; minor = c.in-Whole.r.version; fields = c.in_ok-fields-in-Whole.fields })
    c.front-front.ensures c.head_seen-seen.ensures c.in-Whole.ensures c.three_digits-status.ensures refl c.in_ok-fields-in-Whole.ensures
