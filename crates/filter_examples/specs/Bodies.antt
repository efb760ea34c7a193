-- The body modes of one direction.
use Rattle.std.specs.Prelude.{ℕ, ◌≡◌, true, false, List, [], ◌∷◌, ◌++◌, length, drop, codes, map, refl, replicate}
use Rattle.std.specs.Fmt.{digits}
use Rattle.ext_msgs.specs.declared.answer.Member.TheVariants as member
use Rattle.ext_msgs.specs.declared.answer.BodyChange.TheVariants as change
use Rattle.ext_msgs.specs.declared.ask.Ask.{Ask}
use Rattle.ext_msgs.specs.declared.ask.Ask.TheVariants as ask
use Rattle.ext_msgs.specs.declared.modes.BodyMode.TheVariants.{NoAsk, Streamed, Buffered, Partial}
use Rattle.header_mutation.specs.Mutated.{mutation_rules}
use Rattle.http_model.specs.Bytes.{field}
use Rattle.http_model.specs.Reads.{read_rules}
use Rattle.http_model.specs.Wire.{write_rules}
use Rattle.filter_model.specs.Config.{FilterConfig}
use Rattle.filter_model.specs.Step.{rules}
use Rattle.filter_model.specs.View.{ViewEntry, Bytes}
use Rattle.filter_model.specs.declared.calls.Side.TheVariants.{Client}
use Rattle.filter_examples.specs.Setting.{config, to_upstream, to_client, asks, post, get_a, answer, headers_answered, body_answered, setting, removing, mutating}

-- Heads

request_headers_are_asked_whole : asks (config NoAsk) (get_a ∷ [])
    ≡ ask.RequestHeaders (field (codes ":method") (codes "GET") ∷ field (codes ":scheme") (codes "http") ∷ field (codes ":authority") (codes "a") ∷ field (codes ":path") (codes "/") ∷ []) true ∷ []
unfolding digits rules read_rules write_rules mutation_rules
request_headers_are_asked_whole = refl

headers_before_a_body_are_not_the_end : asks (config NoAsk) (post (codes "hi") ∷ [])
    ≡ ask.RequestHeaders (field (codes ":method") (codes "POST") ∷ field (codes ":scheme") (codes "http") ∷ field (codes ":authority") (codes "a") ∷ field (codes ":path") (codes "/") ∷ field (codes "content-length") (codes "2") ∷ []) false ∷ []
unfolding digits rules read_rules write_rules mutation_rules
headers_before_a_body_are_not_the_end = refl

-- NONE

passes_a_body_unasked : to_upstream (config NoAsk) (post (codes "hi") ∷ headers_answered ∷ [])
    ≡ codes "POST / HTTP/1.1\r\nhost: a\r\ncontent-length: 2\r\nconnection: close\r\n\r\nhi"
unfolding digits rules read_rules write_rules mutation_rules
passes_a_body_unasked = refl

adds_one_header : to_upstream (config NoAsk) (get_a ∷ answer (member.RequestHeaders (mutating (setting (codes "X-A") (codes "1") 0))) ∷ [])
    ≡ codes "GET / HTTP/1.1\r\nhost: a\r\nx-a: 1\r\nconnection: close\r\n\r\n"
unfolding digits rules read_rules write_rules mutation_rules
adds_one_header = refl

-- BUFFERED

buffered_asks_the_whole_body : drop 1 (asks (config Buffered) (post (codes "abcd") ∷ headers_answered ∷ [])) ≡ ask.RequestBody (codes "abcd") true ∷ []
unfolding digits rules read_rules write_rules mutation_rules
buffered_asks_the_whole_body = refl

buffered_holds_the_head : to_upstream (config Buffered) (post (codes "abcd") ∷ headers_answered ∷ []) ≡ []
unfolding digits rules read_rules write_rules mutation_rules
buffered_holds_the_head = refl

buffered_body_goes_up : to_upstream (config Buffered) (post (codes "abcd") ∷ headers_answered ∷ body_answered change.Absent ∷ [])
    ≡ codes "POST / HTTP/1.1\r\nhost: a\r\ncontent-length: 4\r\nconnection: close\r\n\r\nabcd"
unfolding digits rules read_rules write_rules mutation_rules
buffered_body_goes_up = refl

body_past_the_limit_is_413 : to_client (config Buffered) (post (codes "abcde") ∷ headers_answered ∷ [])
    ≡ codes "HTTP/1.1 413 Content Too Large\r\ncontent-length: 0\r\nconnection: close\r\n\r\n"
unfolding digits rules read_rules write_rules mutation_rules
body_past_the_limit_is_413 = refl

body_past_the_limit_is_not_asked : drop 1 (asks (config Buffered) (post (codes "abcde") ∷ headers_answered ∷ [])) ≡ []
unfolding digits rules read_rules write_rules mutation_rules
body_past_the_limit_is_not_asked = refl

-- the header mutation of a body answer takes effect on what the headers answer left
body_answer_changes_the_head : to_upstream (config Buffered) (post (codes "ab") ∷ answer (member.RequestHeaders (mutating (setting (codes "x-a") (codes "1") 0)))
    ∷ answer (member.RequestBody (mutating (removing (codes "x-a")))) ∷ [])
    ≡ codes "POST / HTTP/1.1\r\nhost: a\r\ncontent-length: 2\r\nconnection: close\r\n\r\nab"
unfolding digits rules read_rules write_rules mutation_rules
body_answer_changes_the_head = refl

-- BUFFERED_PARTIAL

partial_asks_the_first_bytes : drop 1 (asks (config Partial) (post (codes "abcde") ∷ headers_answered ∷ [])) ≡ ask.RequestBody (codes "abcd") false ∷ []
unfolding digits rules read_rules write_rules mutation_rules
partial_asks_the_first_bytes = refl

partial_sends_the_head_chunked : to_upstream (config Partial) (post (codes "abcde") ∷ headers_answered ∷ [])
    ≡ codes "POST / HTTP/1.1\r\nhost: a\r\ntransfer-encoding: chunked\r\nconnection: close\r\n\r\n"
unfolding digits rules read_rules write_rules mutation_rules
partial_sends_the_head_chunked = refl

rest_passes_behind_a_partial_body : to_upstream (config Partial) (post (codes "abcde") ∷ headers_answered ∷ body_answered change.Absent ∷ [])
    ≡ codes "POST / HTTP/1.1\r\nhost: a\r\ntransfer-encoding: chunked\r\nconnection: close\r\n\r\n4\r\nabcd\r\n1\r\ne\r\n0\r\n\r\n"
unfolding digits rules read_rules write_rules mutation_rules
rest_passes_behind_a_partial_body = refl

-- STREAMED

streamed_asks_by_pieces : drop 1 (asks (config Streamed) (post (codes "abcdefghij") ∷ headers_answered ∷ []))
    ≡ ask.RequestBody (codes "abcd") false ∷ ask.RequestBody (codes "efgh") false ∷ ask.RequestBody (codes "ij") true ∷ []
unfolding digits rules read_rules write_rules mutation_rules
streamed_asks_by_pieces = refl

streamed_pieces_are_changed_one_by_one : to_upstream (config Streamed)
    (post (codes "abcdefghij") ∷ headers_answered ∷ body_answered change.Absent ∷ body_answered (change.Clear true) ∷ body_answered (change.Bytes (codes "hi")) ∷ [])
    ≡ codes "POST / HTTP/1.1\r\nhost: a\r\ntransfer-encoding: chunked\r\nconnection: close\r\n\r\n4\r\nabcd\r\n2\r\nhi\r\n0\r\n\r\n"
unfolding digits rules read_rules write_rules mutation_rules
streamed_pieces_are_changed_one_by_one = refl

-- the last byte was asked before its end was known: an empty last ask follows
streamed_ends_with_an_empty_ask : drop 2 (asks (config Streamed)
    (Bytes Client (codes "POST / HTTP/1.1\r\nHost: a\r\nTransfer-Encoding: chunked\r\n\r\n3\r\nabc\r\n") ∷ headers_answered ∷ Bytes Client (codes "0\r\n\r\n") ∷ []))
    ≡ ask.RequestBody [] true ∷ []
unfolding digits rules read_rules write_rules mutation_rules
streamed_ends_with_an_empty_ask = refl

-- a body that turns out empty, without trailers: no ask in STREAMED, one in BUFFERED
streamed_asks_no_empty_body : drop 1 (asks (config Streamed)
    (Bytes Client (codes "POST / HTTP/1.1\r\nHost: a\r\nTransfer-Encoding: chunked\r\n\r\n0\r\n\r\n") ∷ headers_answered ∷ []))
    ≡ []
unfolding digits rules read_rules write_rules mutation_rules
streamed_asks_no_empty_body = refl

buffered_asks_an_empty_body : drop 1 (asks (config Buffered)
    (Bytes Client (codes "POST / HTTP/1.1\r\nHost: a\r\nTransfer-Encoding: chunked\r\n\r\n0\r\n\r\n") ∷ headers_answered ∷ []))
    ≡ ask.RequestBody [] true ∷ []
unfolding digits rules read_rules write_rules mutation_rules
buffered_asks_an_empty_body = refl

-- at most four asks are out or not sent
at_most_four_asks_wait : length (asks (config Streamed) (post (replicate 40 97) ∷ headers_answered ∷ [])) ≡ 4
unfolding digits rules read_rules write_rules mutation_rules
at_most_four_asks_wait = refl

-- Sizes of the product

abbrev large : FilterConfig
large = record (config Streamed) { course = record (config Streamed).course { piece = 16384; mark = 65536; buffer_limit = 65536 } }

abbrev size : Ask → ℕ
size (ask.RequestBody bytes last) = length bytes
size _ = 0

streamed_pieces_have_16_384_bytes : map size (asks large (post (replicate 40000 97) ∷ headers_answered ∷ [])) ≡ 0 ∷ 16384 ∷ 16384 ∷ 7232 ∷ []
unfolding digits rules read_rules write_rules mutation_rules
streamed_pieces_have_16_384_bytes = refl

large_pieces_go_up : to_upstream large (post (replicate 40000 97) ∷ headers_answered ∷ body_answered change.Absent ∷ body_answered (change.Clear true) ∷ body_answered (change.Bytes (codes "hi")) ∷ [])
    ≡ codes "POST / HTTP/1.1\r\nhost: a\r\ntransfer-encoding: chunked\r\nconnection: close\r\n\r\n4000\r\n" ++ replicate 16384 97 ++ codes "\r\n2\r\nhi\r\n0\r\n\r\n"
unfolding digits rules read_rules write_rules mutation_rules
large_pieces_go_up = refl

abbrev whole : FilterConfig
whole = record (config Buffered) { course = large.course }

abbrev expecting : ViewEntry
expecting = Bytes Client (codes "POST /up HTTP/1.1\r\nHost: localhost:8080\r\nUser-Agent: curl/7.68.0\r\nAccept: */*\r\nContent-Length: 1025\r\nContent-Type: application/x-www-form-urlencoded\r\nExpect: 100-continue\r\n\r\n")

interim_response_goes_first : to_client whole (expecting ∷ []) ≡ codes "HTTP/1.1 100 Continue\r\n\r\n"
unfolding digits rules read_rules write_rules mutation_rules
interim_response_goes_first = refl

body_is_replaced_by_a_shorter_one : to_upstream whole (expecting ∷ headers_answered ∷ Bytes Client (replicate 1025 97) ∷ body_answered (change.Bytes (codes "hi")) ∷ [])
    ≡ codes "POST /up HTTP/1.1\r\nhost: localhost:8080\r\nuser-agent: curl/7.68.0\r\naccept: */*\r\ncontent-type: application/x-www-form-urlencoded\r\ncontent-length: 2\r\nconnection: close\r\n\r\nhi"
unfolding digits rules read_rules write_rules mutation_rules
body_is_replaced_by_a_shorter_one = refl

-- However the bytes are cut

abbrev singly : ViewEntry → List ViewEntry
singly (Bytes s bytes) = map (λ b. Bytes s (b ∷ [])) bytes
singly e = e ∷ []

cut_into_single_bytes : to_upstream (config Buffered) (singly (post (codes "abcd")) ++ headers_answered ∷ body_answered change.Absent ∷ [])
    ≡ codes "POST / HTTP/1.1\r\nhost: a\r\ncontent-length: 4\r\nconnection: close\r\n\r\nabcd"
unfolding digits rules read_rules write_rules mutation_rules
cut_into_single_bytes = refl
