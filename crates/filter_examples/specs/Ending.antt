-- How an exchange ends: faults, timers, closings, immediate responses, local replies, room.
use Rattle.std.specs.Prelude.{ℕ, ◌≡◌, true, false, List, [], ◌∷◌, ◌++◌, Some, None, codes, refl, reverse, replicate, pos}
use Rattle.std.specs.Fmt.{digits}
use Rattle.header_mutation.specs.Mutated.{mutation_rules}
use Rattle.http_model.specs.Reads.{read_rules}
use Rattle.http_model.specs.Wire.{write_rules, local_reply}
use Rattle.filter_model.specs.Config.{FilterConfig}
use Rattle.filter_model.specs.Step.{rules, after, room}
use Rattle.filter_model.specs.Account.{ExchangeAccount, Live, Left, Replied, Aborted}
use Rattle.filter_model.specs.Right.{is_done, is_aborted}
use Rattle.filter_model.specs.View.{ViewEntry, Bytes, End, Lost, Answered, TooLong, Closed, NoStream, Tick, Starved, Sent, Given}
use Rattle.filter_model.specs.declared.calls.Side.TheVariants.{Client, Upstream}
use Rattle.filter_model.specs.declared.calls.Loss.TheVariants.{NoDial, Broken}
use Rattle.ext_msgs.specs.declared.answer.Member.TheVariants as member
use Rattle.ext_msgs.specs.declared.answer.BodyChange.TheVariants as change
use Rattle.ext_msgs.specs.declared.modes.BodyMode.TheVariants.{NoAsk, Streamed, Buffered}
use Rattle.filter_examples.specs.Setting.{config, allowing, send, to_upstream, to_client, asks, fate_of, end_of, get_a, post, ok, unchanged, removing, answer, headers_answered, body_answered, response_headers_answered}

-- Local replies to the client's faults, and the upstream's

old_version_gets_505 : to_client (config NoAsk) (Bytes Client (codes "GET / HTTP/1.0\r\n\r\n") ∷ [])
    ≡ codes "HTTP/1.1 505 HTTP Version Not Supported\r\ncontent-length: 0\r\nconnection: close\r\n\r\n"
unfolding digits rules read_rules write_rules mutation_rules
old_version_gets_505 = refl

connect_gets_501 : to_client (config NoAsk) (Bytes Client (codes "CONNECT a:1 HTTP/1.1\r\nHost: a\r\n\r\n") ∷ []) ≡ local_reply 501
unfolding digits rules read_rules write_rules mutation_rules
connect_gets_501 = refl

head_without_host_gets_400 : to_client (config NoAsk) (Bytes Client (codes "GET / HTTP/1.1\r\n\r\n") ∷ []) ≡ local_reply 400
unfolding digits rules read_rules write_rules mutation_rules
head_without_host_gets_400 = refl

length_beside_chunked_gets_400 : to_client (config NoAsk) (Bytes Client (codes "POST / HTTP/1.1\r\nHost: a\r\nContent-Length: 1\r\nTransfer-Encoding: chunked\r\n\r\n") ∷ []) ≡ local_reply 400
unfolding digits rules read_rules write_rules mutation_rules
length_beside_chunked_gets_400 = refl

unfinished_long_head_gets_431 : to_client (config NoAsk) (Bytes Client (replicate 32768 97) ∷ []) ≡ local_reply 431
unfolding digits rules read_rules write_rules mutation_rules
unfinished_long_head_gets_431 = refl

long_head_behind_a_whole_first_line_gets_431 : to_client (config NoAsk) (Bytes Client (codes "GET / HTTP/1.1\r\nHost: a\r\nx: " ++ replicate 32740 97) ∷ []) ≡ local_reply 431
unfolding digits rules read_rules write_rules mutation_rules
long_head_behind_a_whole_first_line_gets_431 = refl

failed_dial_gets_503 : to_client (config NoAsk) (get_a ∷ Lost Upstream NoDial ∷ []) ≡ local_reply 503
unfolding digits rules read_rules write_rules mutation_rules
failed_dial_gets_503 = refl

dial_that_fails_first_gets_503 : to_client (config NoAsk) (Lost Upstream NoDial ∷ get_a ∷ []) ≡ local_reply 503
unfolding digits rules read_rules write_rules mutation_rules
dial_that_fails_first_gets_503 = refl

dial_that_fails_first_leaves_no_ask : asks (config NoAsk) (Lost Upstream NoDial ∷ get_a ∷ []) ≡ []
unfolding digits rules read_rules write_rules mutation_rules
dial_that_fails_first_leaves_no_ask = refl

bad_response_gets_502 : to_client (config NoAsk) (get_a ∷ headers_answered ∷ Bytes Upstream (codes "x\r\n\r\n") ∷ []) ≡ local_reply 502
unfolding digits rules read_rules write_rules mutation_rules
bad_response_gets_502 = refl

abbrev begun : ViewEntry
begun = Bytes Client (codes "GET / HT")

early_end_gets_400 : to_client (config NoAsk) (begun ∷ End Client ∷ []) ≡ local_reply 400
unfolding digits rules read_rules write_rules mutation_rules
early_end_gets_400 = refl

client_may_leave_before_its_first_byte : fate_of (config NoAsk) (End Client ∷ get_a ∷ []) ≡ Left
unfolding digits rules read_rules write_rules mutation_rules
client_may_leave_before_its_first_byte = refl

lost_client_aborts : fate_of (config NoAsk) (begun ∷ Lost Client Broken ∷ []) ≡ Aborted
unfolding digits rules read_rules write_rules mutation_rules
lost_client_aborts = refl

starved_exchange_aborts : fate_of (allowing (config NoAsk)) (get_a ∷ Starved ∷ []) ≡ Aborted
unfolding digits rules read_rules write_rules mutation_rules
starved_exchange_aborts = refl

-- a fault behind a committed head aborts
committed_response_is_aborted : fate_of (config NoAsk) (get_a ∷ headers_answered ∷ Bytes Upstream (codes "HTTP/1.1 200 OK\r\nTransfer-Encoding: chunked\r\n\r\nx") ∷ []) ≡ Aborted
unfolding digits rules read_rules write_rules mutation_rules
committed_response_is_aborted = refl

-- an upstream lost after its whole response while the request is still going up
lost_upstream_counts_until_all_was_given : fate_of (config NoAsk)
    (get_a ∷ headers_answered ∷ ok ∷ Lost Upstream Broken ∷ [])
    ≡ Aborted
unfolding digits rules read_rules write_rules mutation_rules
lost_upstream_counts_until_all_was_given = refl

-- Immediate responses

abbrev forbids : ViewEntry
forbids = answer (member.Immediate (record { code = 403; headers = unchanged; body = codes "no" }))

abbrev forbidden : List ℕ
forbidden = codes "HTTP/1.1 403 Forbidden\r\ncontent-length: 2\r\nconnection: close\r\n\r\nno"

immediate_response_goes_to_the_client : to_client (config NoAsk) (get_a ∷ forbids ∷ []) ≡ forbidden
unfolding digits rules read_rules write_rules mutation_rules
immediate_response_goes_to_the_client = refl

immediate_response_goes_once : to_client (config NoAsk) (get_a ∷ forbids ∷ forbids ∷ []) ≡ forbidden
unfolding digits rules read_rules write_rules mutation_rules
immediate_response_goes_once = refl

abbrev disabled : FilterConfig
disabled = record (config NoAsk) { no_immediate = true }

disabled_immediate_response_is_spurious : to_client disabled (get_a ∷ forbids ∷ []) ≡ local_reply 500
unfolding digits rules read_rules write_rules mutation_rules
disabled_immediate_response_is_spurious = refl

disabled_immediate_response_may_pass : to_upstream (allowing disabled) (get_a ∷ forbids ∷ [])
    ≡ codes "GET / HTTP/1.1\r\nhost: a\r\nconnection: close\r\n\r\n"
unfolding digits rules read_rules write_rules mutation_rules
disabled_immediate_response_may_pass = refl

disabled_immediate_response_resets_the_stream : end_of (allowing disabled) (get_a ∷ forbids ∷ []) ≡ Some false
unfolding digits rules read_rules write_rules mutation_rules
disabled_immediate_response_resets_the_stream = refl

immediate_response_behind_a_head_aborts : fate_of (config NoAsk) (get_a ∷ headers_answered ∷ Bytes Upstream (codes "HTTP/1.1 200 OK\r\nContent-Length: 5\r\n\r\n") ∷ forbids ∷ [])
    ≡ Aborted
unfolding digits rules read_rules write_rules mutation_rules
immediate_response_behind_a_head_aborts = refl

immediate_response_sets_its_own_fields : to_client (config NoAsk)
    (get_a ∷ answer (member.Immediate (record {
      code = 401;
      body = [];
      headers = record {
        set = record { name = codes "X-A"; value = codes " 1"; action = 0 } ∷ record { name = codes "connection"; value = codes "x"; action = 2 } ∷ [];
        remove = [];
      };
    })) ∷ [])
    ≡ codes "HTTP/1.1 401 Unauthorized\r\nx-a: 1\r\ncontent-length: 0\r\nconnection: close\r\n\r\n"
unfolding digits rules read_rules write_rules mutation_rules
immediate_response_sets_its_own_fields = refl

invalid_immediate_response_is_500 : to_client (config NoAsk)
    (get_a ∷ answer (member.Immediate (record { code = 401; body = []; headers = removing (codes "a b") })) ∷ [])
    ≡ local_reply 500
unfolding digits rules read_rules write_rules mutation_rules
invalid_immediate_response_is_500 = refl

-- a request of HEAD gets the length of the body and not the body: RFC 9110 section 9.3.2
abbrev head_of_a : ViewEntry
head_of_a = Bytes Client (codes "HEAD / HTTP/1.1\r\nHost: a\r\n\r\n")

abbrev forbidden_head : List ℕ
forbidden_head = codes "HTTP/1.1 403 Forbidden\r\ncontent-length: 2\r\nconnection: close\r\n\r\n"

immediate_response_to_head_has_no_body : to_client (config NoAsk) (head_of_a ∷ forbids ∷ []) ≡ forbidden_head
unfolding digits rules read_rules write_rules mutation_rules
immediate_response_to_head_has_no_body = refl

-- its head is all of it: once that was given the client is done
immediate_response_to_head_ends_behind_its_head : is_done (config NoAsk) (after (config NoAsk) (reverse (head_of_a ∷ forbids ∷ Given Client forbidden_head ∷ []))) Client ≡ true
unfolding digits rules read_rules write_rules mutation_rules
immediate_response_to_head_ends_behind_its_head = refl

-- 204 and 304 have neither length nor body, whatever the immediate response brings: RFC 9110 sections 15.3.5 and 15.4.5
abbrev replies_with : ℕ → ViewEntry
replies_with code = answer (member.Immediate (record { code = code; headers = unchanged; body = codes "no" }))

abbrev no_content : List ℕ
no_content = codes "HTTP/1.1 204 No Content\r\nconnection: close\r\n\r\n"

immediate_204_has_no_body : to_client (config NoAsk) (get_a ∷ replies_with 204 ∷ []) ≡ no_content
unfolding digits rules read_rules write_rules mutation_rules
immediate_204_has_no_body = refl

immediate_304_has_no_body : to_client (config NoAsk) (get_a ∷ replies_with 304 ∷ []) ≡ codes "HTTP/1.1 304 Not Modified\r\nconnection: close\r\n\r\n"
unfolding digits rules read_rules write_rules mutation_rules
immediate_304_has_no_body = refl

immediate_204_to_head_has_no_length : to_client (config NoAsk) (head_of_a ∷ replies_with 204 ∷ []) ≡ no_content
unfolding digits rules read_rules write_rules mutation_rules
immediate_204_to_head_has_no_length = refl

-- Timers

timer_waits : fate_of (config NoAsk) (get_a ∷ Tick 199 ∷ []) ≡ Live
unfolding digits rules read_rules write_rules mutation_rules
timer_waits = refl

timer_fires : fate_of (config NoAsk) (get_a ∷ Tick 200 ∷ []) ≡ Replied (local_reply 504)
unfolding digits rules read_rules write_rules mutation_rules
timer_fires = refl

fired_timer_may_pass : to_upstream (allowing (config NoAsk)) (get_a ∷ Tick 200 ∷ [])
    ≡ codes "GET / HTTP/1.1\r\nhost: a\r\nconnection: close\r\n\r\n"
unfolding digits rules read_rules write_rules mutation_rules
fired_timer_may_pass = refl

no_timer_runs_without_an_ask : fate_of (config NoAsk) (get_a ∷ headers_answered ∷ Tick 1000 ∷ []) ≡ Live
unfolding digits rules read_rules write_rules mutation_rules
no_timer_runs_without_an_ask = refl

abbrev patient : FilterConfig
patient = record (config NoAsk) { max_timeout_ms = 1000 }

abbrev asks_for : ℕ → ViewEntry
asks_for nanos = Answered (Some (record { member = member.Unset; modes = None; timeout = Some (record { seconds = pos 0; nanos = pos nanos }) }))

-- an invalid override doesn't use up the one that counts
abbrev waits : List ViewEntry
waits = get_a ∷ asks_for 0 ∷ Tick 100 ∷ asks_for 500_000_000 ∷ asks_for 500_000_000 ∷ []

override_extends_the_timer : fate_of patient (waits ++ Tick 599 ∷ []) ≡ Live
unfolding digits rules read_rules write_rules mutation_rules
override_extends_the_timer = refl

extended_timer_fires : fate_of patient (waits ++ Tick 600 ∷ []) ≡ Replied (local_reply 504)
unfolding digits rules read_rules write_rules mutation_rules
extended_timer_fires = refl

override_needs_a_maximum : fate_of (config NoAsk) (waits ++ Tick 200 ∷ []) ≡ Replied (local_reply 504)
unfolding digits rules read_rules write_rules mutation_rules
override_needs_a_maximum = refl

-- The processor's stream

clean_end_lets_the_rest_pass : to_upstream (config NoAsk) (get_a ∷ Closed true ∷ Closed false ∷ [])
    ≡ codes "GET / HTTP/1.1\r\nhost: a\r\nconnection: close\r\n\r\n"
unfolding digits rules read_rules write_rules mutation_rules
clean_end_lets_the_rest_pass = refl

clean_end_finishes_the_stream : end_of (config NoAsk) (get_a ∷ Closed true ∷ []) ≡ Some true
unfolding digits rules read_rules write_rules mutation_rules
clean_end_finishes_the_stream = refl

failed_stream_is_500 : fate_of (config NoAsk) (get_a ∷ Closed false ∷ []) ≡ Replied (local_reply 500)
unfolding digits rules read_rules write_rules mutation_rules
failed_stream_is_500 = refl

closed_stream_is_not_reset : end_of (config NoAsk) (get_a ∷ Closed false ∷ []) ≡ None
unfolding digits rules read_rules write_rules mutation_rules
closed_stream_is_not_reset = refl

unopened_stream_is_500 : fate_of (config NoAsk) (get_a ∷ NoStream ∷ []) ≡ Replied (local_reply 500)
unfolding digits rules read_rules write_rules mutation_rules
unopened_stream_is_500 = refl

unopened_stream_has_no_end : end_of (config NoAsk) (get_a ∷ NoStream ∷ []) ≡ None
unfolding digits rules read_rules write_rules mutation_rules
unopened_stream_has_no_end = refl

long_answer_is_500 : fate_of (config NoAsk) (get_a ∷ TooLong ∷ []) ≡ Replied (local_reply 500)
unfolding digits rules read_rules write_rules mutation_rules
long_answer_is_500 = refl

abbrev both : FilterConfig
both = record (config Streamed) { response = send NoAsk }

failed_stream_behind_a_head_aborts : fate_of both (post (codes "hi") ∷ headers_answered ∷ ok ∷ response_headers_answered ∷ Closed false ∷ []) ≡ Aborted
unfolding digits rules read_rules write_rules mutation_rules
failed_stream_behind_a_head_aborts = refl

-- The end of the stream comes with both messages given

abbrev up : List ℕ
up = codes "GET / HTTP/1.1\r\nhost: a\r\nconnection: close\r\n\r\n"

abbrev down : List ℕ
down = codes "HTTP/1.1 200 OK\r\ncontent-length: 0\r\nconnection: close\r\n\r\n"

abbrev exchanged : List ViewEntry
exchanged = get_a ∷ Sent ∷ headers_answered ∷ Given Upstream up ∷ ok ∷ []

stream_stays_until_all_was_given : end_of (config NoAsk) exchanged ≡ None
unfolding digits rules read_rules write_rules mutation_rules
stream_stays_until_all_was_given = refl

stream_is_finished_once_all_was_given : end_of (config NoAsk) (exchanged ++ Given Client down ∷ []) ≡ Some true
unfolding digits rules read_rules write_rules mutation_rules
stream_is_finished_once_all_was_given = refl

nothing_counts_once_all_was_given : fate_of (config NoAsk) (exchanged ++ Given Client down ∷ Lost Upstream Broken ∷ Closed false ∷ []) ≡ Live
unfolding digits rules read_rules write_rules mutation_rules
nothing_counts_once_all_was_given = refl

-- both directions are asked, and their answers come crosswise
abbrev both_exchanged : List ViewEntry
both_exchanged = post (codes "hi") ∷ Sent ∷ headers_answered ∷ Sent ∷ ok ∷ Sent ∷ response_headers_answered ∷ Given Client down ∷ body_answered change.Absent ∷ []

stream_of_both_stays_until_the_request_was_given : end_of both both_exchanged ≡ None
unfolding digits rules read_rules write_rules mutation_rules
stream_of_both_stays_until_the_request_was_given = refl

stream_of_both_is_finished_once_all_was_given : end_of both (both_exchanged
    ++ Given Upstream (codes "POST / HTTP/1.1\r\nhost: a\r\ntransfer-encoding: chunked\r\nconnection: close\r\n\r\n2\r\nhi\r\n0\r\n\r\n") ∷ [])
    ≡ Some true
unfolding digits rules read_rules write_rules mutation_rules
stream_of_both_is_finished_once_all_was_given = refl

-- What a port is told at the end

abbrev account_of : List ViewEntry → ExchangeAccount
account_of v = after (config NoAsk) (reverse v)

-- the request was given whole, then the response is aborted: the upstream is done, the client isn't
abbrev aborted_late : List ViewEntry
aborted_late = get_a ∷ headers_answered ∷ Given Upstream up ∷ Bytes Upstream (codes "HTTP/1.1 200 OK\r\nContent-Length: 5\r\n\r\nab") ∷ forbids ∷ []

upstream_that_is_done_stays_done : is_done (config NoAsk) (account_of aborted_late) Upstream ≡ true
unfolding digits rules read_rules write_rules mutation_rules
upstream_that_is_done_stays_done = refl

client_of_an_abort_is_not_done : is_done (config NoAsk) (account_of aborted_late) Client ≡ false
unfolding digits rules read_rules write_rules mutation_rules
client_of_an_abort_is_not_done = refl

client_is_aborted : is_aborted (account_of aborted_late) Client ≡ true
unfolding digits rules read_rules write_rules mutation_rules
client_is_aborted = refl

-- the response is aborted while the request is still going up: neither is done
abbrev aborted_early : List ViewEntry
aborted_early = Bytes Client (codes "POST / HTTP/1.1\r\nHost: a\r\nContent-Length: 5\r\n\r\nab") ∷ headers_answered
    ∷ Bytes Upstream (codes "HTTP/1.1 200 OK\r\nContent-Length: 5\r\n\r\nab") ∷ forbids ∷ []

immediate_response_aborts_both_links : fate_of (config NoAsk) aborted_early ≡ Aborted
unfolding digits rules read_rules write_rules mutation_rules
immediate_response_aborts_both_links = refl

upstream_of_an_early_abort_is_not_done : is_done (config NoAsk) (account_of aborted_early) Upstream ≡ false
unfolding digits rules read_rules write_rules mutation_rules
upstream_of_an_early_abort_is_not_done = refl

upstream_of_an_early_abort_is_aborted : is_aborted (account_of aborted_early) Upstream ≡ true
unfolding digits rules read_rules write_rules mutation_rules
upstream_of_an_early_abort_is_aborted = refl

client_of_an_early_abort_is_not_done : is_done (config NoAsk) (account_of aborted_early) Client ≡ false
unfolding digits rules read_rules write_rules mutation_rules
client_of_an_early_abort_is_not_done = refl

client_of_an_early_abort_is_aborted : is_aborted (account_of aborted_early) Client ≡ true
unfolding digits rules read_rules write_rules mutation_rules
client_of_an_early_abort_is_aborted = refl

-- a reply aborts the upstream, and the client is done once it has it
reply_aborts_the_upstream : is_aborted (account_of (get_a ∷ forbids ∷ [])) Upstream ≡ true
unfolding digits rules read_rules write_rules mutation_rules
reply_aborts_the_upstream = refl

client_is_done_once_the_reply_was_given : is_done (config NoAsk) (account_of (get_a ∷ forbids ∷ Given Client forbidden ∷ [])) Client ≡ true
unfolding digits rules read_rules write_rules mutation_rules
client_is_done_once_the_reply_was_given = refl

-- Room, with a mark of 16

abbrev response_begun : List ViewEntry
response_begun = get_a ∷ headers_answered ∷ Bytes Upstream (codes "HTTP/1.1 200 OK\r\nContent-Length: 1000\r\n\r\n") ∷ []

abbrev room_of_upstream : List ViewEntry → ℕ
room_of_upstream v = room (config NoAsk) (after (config NoAsk) (reverse v)) Upstream

room_is_what_the_mark_leaves : room_of_upstream (response_begun ++ Bytes Upstream (replicate 14 97) ∷ []) ≡ 2
unfolding digits rules read_rules write_rules mutation_rules
room_is_what_the_mark_leaves = refl

no_room_at_the_mark : room_of_upstream (response_begun ++ Bytes Upstream (replicate 16 97) ∷ []) ≡ 0
unfolding digits rules read_rules write_rules mutation_rules
no_room_at_the_mark = refl

given_bytes_make_room : room_of_upstream (response_begun ++ Bytes Upstream (replicate 16 97)
    ∷ Given Client (codes "HTTP/1.1 200 OK\r\ncontent-length: 1000\r\nconnection: close\r\n\r\naaa") ∷ [])
    ≡ 3
unfolding digits rules read_rules write_rules mutation_rules
given_bytes_make_room = refl

-- a response longer than the mark, taken in two pieces
abbrev twenty : List ℕ
twenty = codes "HTTP/1.1 200 OK\r\ncontent-length: 20\r\nconnection: close\r\n\r\n"

abbrev filled : List ViewEntry
filled = get_a ∷ headers_answered ∷ Bytes Upstream (codes "HTTP/1.1 200 OK\r\nContent-Length: 20\r\n\r\n" ++ replicate 16 97) ∷ []

abbrev taken_from : List ViewEntry
taken_from = filled ++ Given Client (twenty ++ replicate 6 97) ∷ []

abbrev refilled : List ViewEntry
refilled = taken_from ++ Bytes Upstream (replicate 4 98) ∷ []

full_queue_leaves_no_room : room_of_upstream filled ≡ 0
unfolding digits rules read_rules write_rules mutation_rules
full_queue_leaves_no_room = refl

-- six bytes are free, and a side brings at most a piece of 4
room_comes_back_by_a_piece : room_of_upstream taken_from ≡ 4
unfolding digits rules read_rules write_rules mutation_rules
room_comes_back_by_a_piece = refl

room_that_came_back_lets_the_rest_through : to_client (config NoAsk) refilled ≡ twenty ++ replicate 16 97 ++ replicate 4 98
unfolding digits rules read_rules write_rules mutation_rules
room_that_came_back_lets_the_rest_through = refl

client_with_a_piece_is_not_done : is_done (config NoAsk) (account_of refilled) Client ≡ false
unfolding digits rules read_rules write_rules mutation_rules
client_with_a_piece_is_not_done = refl

client_with_the_whole_response_is_done : is_done (config NoAsk) (account_of (refilled ++ Given Client (replicate 10 97 ++ replicate 4 98) ∷ [])) Client ≡ true
unfolding digits rules read_rules write_rules mutation_rules
client_with_the_whole_response_is_done = refl

upstream_waits_for_the_request : room_of_upstream (get_a ∷ []) ≡ 0
unfolding digits rules read_rules write_rules mutation_rules
upstream_waits_for_the_request = refl

collected_body_has_room_for_one_byte_more : room (config Buffered) (after (config Buffered) (reverse
    (Bytes Client (codes "POST / HTTP/1.1\r\nHost: a\r\nContent-Length: 9\r\n\r\nab") ∷ headers_answered ∷ []))) Client
    ≡ 3
unfolding digits rules read_rules write_rules mutation_rules
collected_body_has_room_for_one_byte_more = refl
