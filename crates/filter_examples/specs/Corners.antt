-- Corners: rules that meet, and what they come to.
use Rattle.std.specs.Prelude.{ℕ, ◌≡◌, true, false, List, [], ◌∷◌, ◌++◌, drop, Some, None, codes, refl, map, pos, reverse, replicate}
use Rattle.std.specs.Fmt.{digits}
use Rattle.ext_msgs.specs.declared.answer.Member.TheVariants as member
use Rattle.ext_msgs.specs.declared.answer.BodyChange.TheVariants as change
use Rattle.ext_msgs.specs.declared.modes.BodyMode.TheVariants.{NoAsk, Streamed, Buffered, Partial}
use Rattle.header_mutation.specs.Mutated.{mutation_rules}
use Rattle.http_model.specs.Bytes.{field}
use Rattle.http_model.specs.Reads.{read_rules}
use Rattle.http_model.specs.Wire.{write_rules, local_reply}
use Rattle.http_model.specs.declared.types.Direction.TheVariants.{Request}
use Rattle.filter_model.specs.Config.{FilterConfig}
use Rattle.filter_model.specs.Course.{changed, queue}
use Rattle.filter_model.specs.Account.{Live, Replied}
use Rattle.filter_model.specs.Step.{rules, after, room}
use Rattle.filter_model.specs.View.{ViewEntry, Bytes, End, Answered, TooLong, Closed, Tick, Given}
use Rattle.filter_model.specs.declared.calls.Side.TheVariants.{Client, Upstream}
use Rattle.ext_msgs.specs.declared.ask.Ask.TheVariants as ask
use Rattle.filter_examples.specs.Setting.{config, allowing, skip, to_upstream, to_client, asks, fate_of, end_of, get_a, post, ok, unchanged, setting, common, mutating, answer, headers_answered, body_answered}

-- Heads as they go out

request_passes_as_it_was : to_upstream (config NoAsk) (get_a ∷ headers_answered ∷ [])
    ≡ codes "GET / HTTP/1.1\r\nhost: a\r\nconnection: close\r\n\r\n"
unfolding digits rules read_rules write_rules mutation_rules
request_passes_as_it_was = refl

-- a length that stays is written as a number; an empty value keeps the space before it
numbers_are_written_anew : to_upstream (config NoAsk) (Bytes Client (codes "POST / HTTP/1.1\r\nHost: a\r\nX-A:\r\nContent-Length: 002\r\n\r\nhi") ∷ headers_answered ∷ [])
    ≡ codes "POST / HTTP/1.1\r\nhost: a\r\nx-a: \r\ncontent-length: 2\r\nconnection: close\r\n\r\nhi"
unfolding digits rules read_rules write_rules mutation_rules
numbers_are_written_anew = refl

-- a status without a phrase keeps the space before it
phrase_may_be_empty : to_client (config NoAsk) (get_a ∷ headers_answered ∷ Bytes Upstream (codes "HTTP/1.1 299 Fine\r\nContent-Length: 0\r\n\r\n") ∷ [])
    ≡ codes "HTTP/1.1 299 \r\ncontent-length: 0\r\nconnection: close\r\n\r\n"
unfolding digits rules read_rules write_rules mutation_rules
phrase_may_be_empty = refl

-- a response that ends with the connection goes out in chunks
close_becomes_chunked : to_client (config NoAsk) (get_a ∷ headers_answered ∷ Bytes Upstream (codes "HTTP/1.0 200 OK\r\n\r\nab") ∷ End Upstream ∷ [])
    ≡ codes "HTTP/1.1 200 OK\r\ntransfer-encoding: chunked\r\nconnection: close\r\n\r\n2\r\nab\r\n0\r\n\r\n"
unfolding digits rules read_rules write_rules mutation_rules
close_becomes_chunked = refl

-- a response to HEAD keeps the length that it had, and a 204 has none
head_keeps_its_length : to_client (config NoAsk) (Bytes Client (codes "HEAD / HTTP/1.1\r\nHost: a\r\n\r\n") ∷ headers_answered ∷ Bytes Upstream (codes "HTTP/1.1 200 OK\r\nContent-Length: 7\r\n\r\n") ∷ [])
    ≡ codes "HTTP/1.1 200 OK\r\ncontent-length: 7\r\nconnection: close\r\n\r\n"
unfolding digits rules read_rules write_rules mutation_rules
head_keeps_its_length = refl

no_content_has_no_length : to_client (config NoAsk) (get_a ∷ headers_answered ∷ Bytes Upstream (codes "HTTP/1.1 204 No Content\r\nContent-Length: 7\r\n\r\n") ∷ [])
    ≡ codes "HTTP/1.1 204 No Content\r\nconnection: close\r\n\r\n"
unfolding digits rules read_rules write_rules mutation_rules
no_content_has_no_length = refl

-- Expectations

abbrev expecting : List ℕ → ViewEntry
expecting more = Bytes Client (codes "POST / HTTP/1.1\r\nHost: a\r\nTransfer-Encoding: chunked\r\nExpect: x\r\nExpect: 100-Continue\r\n\r\n" ++ more)

expect_is_not_shown : asks (config NoAsk) (expecting [] ∷ [])
    ≡ ask.RequestHeaders (field (codes ":method") (codes "POST") ∷ field (codes ":scheme") (codes "http") ∷ field (codes ":authority") (codes "a") ∷ field (codes ":path") (codes "/") ∷ []) false ∷ []
unfolding digits rules read_rules write_rules mutation_rules
expect_is_not_shown = refl

interim_response_goes_before_a_fault : to_client (config NoAsk) (expecting (codes "x") ∷ [])
    ≡ codes "HTTP/1.1 100 Continue\r\n\r\n" ++ local_reply 400
unfolding digits rules read_rules write_rules mutation_rules
interim_response_goes_before_a_fault = refl

-- Asks

abbrev skipping : FilterConfig
skipping = record (config Streamed) { request = record { headers = false; body = Streamed; trailers = false } }

-- pieces are cut by what is at hand
first_piece_is_what_came_with_the_head : asks skipping (Bytes Client (codes "POST / HTTP/1.1\r\nHost: a\r\nContent-Length: 6\r\n\r\nab") ∷ Bytes Client (codes "cdef") ∷ [])
    ≡ ask.RequestBody (codes "ab") false ∷ ask.RequestBody (codes "cdef") true ∷ []
unfolding digits rules read_rules write_rules mutation_rules
first_piece_is_what_came_with_the_head = refl

abbrev slow : FilterConfig
slow = record (config Streamed) { course = record (config Streamed).course { mark = 2 } }

abbrev waiting : List ViewEntry
waiting = Bytes Client (codes "POST / HTTP/1.1\r\nHost: a\r\nTransfer-Encoding: chunked\r\n\r\n3\r\nabc\r\n") ∷ headers_answered ∷ body_answered change.Absent
    ∷ Bytes Client (codes "0\r\n\r\n") ∷ []

-- more bytes wait to be given than the mark: the last ask is due and not permitted, and the message hasn't ended
end_waits_for_the_last_ask : (changed slow.course Request (after slow (reverse waiting)).request.course).ended ≡ false
unfolding digits rules read_rules write_rules mutation_rules
end_waits_for_the_last_ask = refl

last_ask_is_made_once_bytes_were_given : drop 2 (asks slow (waiting ++ Given Upstream (codes "POST / HTTP/1.1\r\nhost: a\r\ntransfer-encoding: chunked\r\nconnection: close\r\n\r\n3\r\nab") ∷ []))
    ≡ ask.RequestBody [] true ∷ []
unfolding digits rules read_rules write_rules mutation_rules
last_ask_is_made_once_bytes_were_given = refl

-- heads and framing don't count among the bytes that wait
abbrev partial_head : List ℕ
partial_head = codes "POST / HTTP/1.1\r\nhost: a\r\ntransfer-encoding: chunked\r\nconnection: close\r\n\r\n"

abbrev waits : List ℕ → ℕ
waits given = queue (config Partial).course Request
    (after (config Partial) (reverse (post (codes "abcde") ∷ headers_answered ∷ body_answered change.Absent ∷ Given Upstream given ∷ []))).request.course

head_does_not_count : waits partial_head ≡ 5
unfolding digits rules read_rules write_rules mutation_rules
head_does_not_count = refl

chunk_lines_do_not_count : waits (partial_head ++ codes "4\r\nabc") ≡ 2
unfolding digits rules read_rules write_rules mutation_rules
chunk_lines_do_not_count = refl

all_was_given : waits (partial_head ++ codes "4\r\nabcd\r\n1\r\ne\r\n0\r\n\r\n") ≡ 0
unfolding digits rules read_rules write_rules mutation_rules
all_was_given = refl

-- The cut

abbrev overriding : FilterConfig
overriding = record (config NoAsk) { allow_override = true }

abbrev with_modes : List ℕ → ViewEntry
with_modes n = Answered (Some (record {
  member = member.RequestHeaders (mutating (setting (codes "x-a") (codes "1") 0));
  modes = Some (record { numbers = map pos n });
  timeout = None;
}))

-- the answer that makes a body too long to be kept is the cut, and changes nothing
override_to_buffered_may_be_over : to_client overriding (post (codes "abcde") ∷ with_modes (0 ∷ 0 ∷ 2 ∷ 0 ∷ 0 ∷ 0 ∷ []) ∷ []) ≡ local_reply 413
unfolding digits rules read_rules write_rules mutation_rules
override_to_buffered_may_be_over = refl

over_keeps_what_was_before : to_upstream overriding (post (codes "abcde") ∷ with_modes (0 ∷ 0 ∷ 2 ∷ 0 ∷ 0 ∷ 0 ∷ []) ∷ []) ≡ []
unfolding digits rules read_rules write_rules mutation_rules
over_keeps_what_was_before = refl

-- an empty override has the number 0 everywhere: the response's headers are asked, no body is
empty_override_is_default : drop 1 (asks (record overriding { response = record skip { body = Buffered } })
    (get_a ∷ with_modes (0 ∷ 0 ∷ 0 ∷ 0 ∷ 0 ∷ 0 ∷ []) ∷ ok ∷ []))
    ≡ ask.ResponseHeaders (field (codes ":status") (codes "200") ∷ field (codes "content-length") (codes "0") ∷ []) true ∷ []
unfolding digits rules read_rules write_rules mutation_rules
empty_override_is_default = refl

-- answers and closings before the first ask count at once, and no end of the stream follows
early_answer_is_500 : fate_of (config NoAsk) (headers_answered ∷ []) ≡ Replied (local_reply 500)
unfolding digits rules read_rules write_rules mutation_rules
early_answer_is_500 = refl

early_answer_has_no_end : end_of (config NoAsk) (headers_answered ∷ get_a ∷ []) ≡ None
unfolding digits rules read_rules write_rules mutation_rules
early_answer_has_no_end = refl

early_close_lets_all_pass : to_upstream (config NoAsk) (Closed true ∷ get_a ∷ []) ≡ codes "GET / HTTP/1.1\r\nhost: a\r\nconnection: close\r\n\r\n"
unfolding digits rules read_rules write_rules mutation_rules
early_close_lets_all_pass = refl

-- a timeout override goes before all else in its answer
override_of_a_wrong_answer_is_an_override : fate_of (record (config NoAsk) { max_timeout_ms = 1000 })
    (get_a ∷ Answered (Some (record { member = member.ResponseBody (common (change.Streamed [] true)); modes = None; timeout = Some (record { seconds = pos 0; nanos = pos 1_000_000 }) })) ∷ [])
    ≡ Live
unfolding digits rules read_rules write_rules mutation_rules
override_of_a_wrong_answer_is_an_override = refl

-- once the rest passes, a fault of a side is a cut again, and nothing else is
fault_behind_a_release_counts : fate_of (allowing (config NoAsk)) (Bytes Client (codes "POST / HTTP/1.1\r\nHost: a\r\nTransfer-Encoding: chunked\r\n\r\n") ∷ Tick 200 ∷ Bytes Client (codes "x") ∷ [])
    ≡ Replied (local_reply 400)
unfolding digits rules read_rules write_rules mutation_rules
fault_behind_a_release_counts = refl

answers_behind_a_release_are_dropped : fate_of (allowing (config NoAsk)) (get_a ∷ Tick 200 ∷ Answered None ∷ TooLong ∷ Closed false ∷ []) ≡ Live
unfolding digits rules read_rules write_rules mutation_rules
answers_behind_a_release_are_dropped = refl

-- a fault in a body that was replaced
fault_in_a_dropped_body_counts : fate_of (config NoAsk) (Bytes Client (codes "POST / HTTP/1.1\r\nHost: a\r\nTransfer-Encoding: chunked\r\n\r\n")
    ∷ answer (member.RequestHeaders (record { replace = true; headers = unchanged; body = change.Bytes (codes "hi") })) ∷ Bytes Client (codes "x") ∷ [])
    ≡ Replied (local_reply 400)
unfolding digits rules read_rules write_rules mutation_rules
fault_in_a_dropped_body_counts = refl

-- Room

-- what was asked and not answered when the rest passed counts as in no ask again
released_bytes_take_room : room (allowing (config Streamed)) (after (allowing (config Streamed)) (reverse
    (Bytes Client (codes "POST / HTTP/1.1\r\nHost: a\r\nContent-Length: 99\r\n\r\n") ∷ headers_answered ∷ Bytes Client (replicate 14 97) ∷ Tick 200 ∷ []))) Client
    ≡ 2
unfolding digits rules read_rules write_rules mutation_rules
released_bytes_take_room = refl

abbrev large : FilterConfig
large = record (config NoAsk) { course = record (config NoAsk).course { piece = 16384; mark = 65536; buffer_limit = 65536 } }

abbrev room_behind : ℕ → ℕ
room_behind n = room large (after large (reverse (get_a ∷ headers_answered ∷ Bytes Upstream (codes "HTTP/1.1 200 OK\r\nContent-Length: 1000000\r\n\r\n" ++ replicate n 97) ∷ []))) Upstream

room_is_left_below_65_536 : room_behind 65535 ≡ 1
unfolding digits rules read_rules write_rules mutation_rules
room_is_left_below_65_536 = refl

no_room_is_left_at_65_536 : room_behind 65536 ≡ 0
unfolding digits rules read_rules write_rules mutation_rules
no_room_is_left_at_65_536 = refl

-- the bytes of an interim response don't count for the head behind it
room_counts_the_heads_own_bytes : room large (after large (reverse (get_a ∷ headers_answered
    ∷ Bytes Upstream (codes "HTTP/1.1 103 Early\r\nx: " ++ replicate 20000 97 ++ codes "\r\n\r\nHTTP/1.1 200 OK\r\nx: " ++ replicate 20000 97) ∷ []))) Upstream
    ≡ 12748
unfolding digits rules read_rules write_rules mutation_rules
room_counts_the_heads_own_bytes = refl
