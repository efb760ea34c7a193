use Rattle.std.proofs.Common.{sym, refl, ap, ◌∙◌, arith}
use Rattle.http_model.specs.Heads.{request_line}
use Rattle.h1_read.specs.Limits.{is_crowded}
use Rattle.h1_read.proofs.LimitedHead.{begun, room, whole_request, bad_head, long_head, open_head, over_head}
use Rattle.h1_read.proofs.head.read_request.Goals as goal

pub request_parse-requires-clause-begun : goal.request_parse-requires-clause-begun
request_parse-requires-clause-begun c = begun c.front-front.result.now c.in-Some.at c.head_seen-seen.result.now c.in-Some.ensures c.head_seen-seen.ensures

pub request_parse-requires-clause-room : goal.request_parse-requires-clause-room
request_parse-requires-clause-room c = room request_line c.front-front.result.now c.in-Some.at c.head_seen-seen.result.now c.in-Some.ensures c.head_seen-seen.ensures

pub returns-then-is_crowded : goal.returns-then-is_crowded
returns-then-is_crowded c =
    long_head request_line c.args.bytes.now c.front-front.result.now c.in-Some.at c.head_seen-seen.result.now c.front-front.ensures c.in-Some.ensures c.head_seen-seen.ensures (sym (c.if-is_crowded.ensures ∙ ap is_crowded c.behind.ensures)) c.in-Partial.ensures

pub returns-then-bytes-lt-MAX_HEAD-2 : goal.returns-then-bytes-lt-MAX_HEAD-2
returns-then-bytes-lt-MAX_HEAD-2 c =
    open_head request_line c.args.bytes.now c.front-front.result.now c.in-Some.at c.head_seen-seen.result.now c.front-front.ensures c.head_seen-seen.ensures (sym (c.if-is_crowded.ensures ∙ ap is_crowded c.behind.ensures)) (omega arith) c.in-Partial.ensures

pub returns-else-bytes-lt-MAX_HEAD-2 : goal.returns-else-bytes-lt-MAX_HEAD-2
returns-else-bytes-lt-MAX_HEAD-2 c =
    over_head request_line c.args.bytes.now c.front-front.result.now c.in-Some.at c.head_seen-seen.result.now c.front-front.ensures c.head_seen-seen.ensures (sym (c.if-is_crowded.ensures ∙ ap is_crowded c.behind.ensures)) (omega arith) c.in-Partial.ensures

pub returns-in-Bad : goal.returns-in-Bad
returns-in-Bad c = bad_head request_line c.args.bytes.now c.front-front.result.now c.in-Some.at c.head_seen-seen.result.now c.front-front.ensures c.head_seen-seen.ensures c.in-Bad.ensures

pub returns-in_ok-fields-in-Whole : goal.returns-in_ok-fields-in-Whole
returns-in_ok-fields-in-Whole c =
    whole_request c.args.bytes.now c.front-front.result.now c.in-Some.at c.head_seen-seen.result.now c.request_parse.new.spans c.in-Whole.r (record { method = c.in_ok-method-in-Whole.method; target = c.in_ok-target-in-Whole.target; minor = c.in-Whole.r.version; fields = c.in_ok-fields-in-Whole.fields })
    c.front-front.ensures c.head_seen-seen.ensures c.in-Whole.ensures (c.in_ok-method-in-Whole.ensures ∙ c.of.ensures) (c.in_ok-target-in-Whole.ensures ∙ c.of-in-Whole-2.ensures) refl c.in_ok-fields-in-Whole.ensures
