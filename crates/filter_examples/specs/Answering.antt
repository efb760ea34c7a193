-- What answers do in both directions: pairing, spurious and malformed answers, replacement, trailers, overrides.
use Rattle.std.specs.Prelude.{ℕ, ◌≡◌, true, false, List, [], ◌∷◌, ◌++◌, drop, Some, None, codes, refl, reverse, pos}
use Rattle.std.specs.Fmt.{digits}
use Rattle.header_mutation.specs.Mutated.{mutation_rules}
use Rattle.http_model.specs.Reads.{read_rules}
use Rattle.http_model.specs.Wire.{write_rules, local_reply}
use Rattle.filter_model.specs.Config.{FilterConfig}
use Rattle.filter_model.specs.Step.{rules, after}
use Rattle.filter_model.specs.Account.{Replied}
use Rattle.filter_model.specs.Right.{is_aborted}
use Rattle.filter_model.specs.View.{ViewEntry, Bytes, Answered}
use Rattle.filter_model.specs.declared.calls.Side.TheVariants.{Upstream}
use Rattle.http_model.specs.Bytes.{field}
use Rattle.ext_msgs.specs.declared.answer.Member.TheVariants as member
use Rattle.ext_msgs.specs.declared.answer.BodyChange.TheVariants as change
use Rattle.ext_msgs.specs.declared.ask.Ask.TheVariants as ask
use Rattle.ext_msgs.specs.declared.modes.BodyMode.TheVariants.{NoAsk, Streamed}
use Rattle.filter_examples.specs.Setting.{config, allowing, with_rules, no_rules, skip, send, to_upstream, to_client, asks, fate_of, end_of, get_a, post, ok, unchanged, setting, removing, common, mutating, answer, headers_answered, body_answered, response_headers_answered, response_body_answered}

-- Both directions at once

abbrev both : FilterConfig
both = record (config Streamed) { response = send NoAsk }

abbrev two_out : List ViewEntry
two_out = post (codes "hi") ∷ headers_answered ∷ ok ∷ []

both_directions_are_asked : drop 1 (asks both two_out)
    ≡ ask.RequestBody (codes "hi") true
    ∷ ask.ResponseHeaders (field (codes ":status") (codes "200") ∷ field (codes "content-length") (codes "0") ∷ []) true ∷ []
unfolding digits rules read_rules write_rules mutation_rules
both_directions_are_asked = refl

response_may_be_answered_first : to_client both (two_out ++ response_headers_answered ∷ [])
    ≡ codes "HTTP/1.1 200 OK\r\ncontent-length: 0\r\nconnection: close\r\n\r\n"
unfolding digits rules read_rules write_rules mutation_rules
response_may_be_answered_first = refl

request_waits_for_its_own_answer : to_upstream both (two_out ++ response_headers_answered ∷ [])
    ≡ codes "POST / HTTP/1.1\r\nhost: a\r\ntransfer-encoding: chunked\r\nconnection: close\r\n\r\n"
unfolding digits rules read_rules write_rules mutation_rules
request_waits_for_its_own_answer = refl

both_are_answered : to_upstream both (two_out ++ response_headers_answered ∷ body_answered change.Absent ∷ [])
    ≡ codes "POST / HTTP/1.1\r\nhost: a\r\ntransfer-encoding: chunked\r\nconnection: close\r\n\r\n2\r\nhi\r\n0\r\n\r\n"
unfolding digits rules read_rules write_rules mutation_rules
both_are_answered = refl

-- Spurious answers

abbrev other_part : ViewEntry
other_part = response_body_answered change.Absent

answer_to_another_part_is_500 : to_client both (two_out ++ other_part ∷ []) ≡ local_reply 500
unfolding digits rules read_rules write_rules mutation_rules
answer_to_another_part_is_500 = refl

answer_to_another_part_aborts_the_upstream : is_aborted (after both (reverse (two_out ++ other_part ∷ []))) Upstream ≡ true
unfolding digits rules read_rules write_rules mutation_rules
answer_to_another_part_aborts_the_upstream = refl

abbrev late_answers : List ViewEntry
late_answers = response_headers_answered ∷ body_answered (change.Bytes (codes "no")) ∷ []

late_answers_leave_the_reply : to_client both (two_out ++ other_part ∷ late_answers) ≡ local_reply 500
unfolding digits rules read_rules write_rules mutation_rules
late_answers_leave_the_reply = refl

late_answers_leave_the_request : to_upstream both (two_out ++ other_part ∷ late_answers)
    ≡ codes "POST / HTTP/1.1\r\nhost: a\r\ntransfer-encoding: chunked\r\nconnection: close\r\n\r\n"
unfolding digits rules read_rules write_rules mutation_rules
late_answers_leave_the_request = refl

allowed_fault_lets_the_response_pass : to_client (allowing both) (two_out ++ other_part ∷ late_answers)
    ≡ codes "HTTP/1.1 200 OK\r\ncontent-length: 0\r\nconnection: close\r\n\r\n"
unfolding digits rules read_rules write_rules mutation_rules
allowed_fault_lets_the_response_pass = refl

allowed_fault_lets_the_request_pass : to_upstream (allowing both) (two_out ++ other_part ∷ late_answers)
    ≡ codes "POST / HTTP/1.1\r\nhost: a\r\ntransfer-encoding: chunked\r\nconnection: close\r\n\r\n2\r\nhi\r\n0\r\n\r\n"
unfolding digits rules read_rules write_rules mutation_rules
allowed_fault_lets_the_request_pass = refl

answer_without_ask_is_500 : to_client (config NoAsk) (get_a ∷ headers_answered ∷ headers_answered ∷ []) ≡ local_reply 500
unfolding digits rules read_rules write_rules mutation_rules
answer_without_ask_is_500 = refl

streamed_response_is_spurious : fate_of (config NoAsk) (get_a ∷ answer (member.RequestHeaders (common (change.Streamed [] true))) ∷ []) ≡ Replied (local_reply 500)
unfolding digits rules read_rules write_rules mutation_rules
streamed_response_is_spurious = refl

-- Malformed answers

malformed_answer_is_500 : to_client (config NoAsk) (get_a ∷ Answered None ∷ []) ≡ local_reply 500
unfolding digits rules read_rules write_rules mutation_rules
malformed_answer_is_500 = refl

malformed_answer_resets_the_stream : end_of (config NoAsk) (get_a ∷ Answered None ∷ []) ≡ Some false
unfolding digits rules read_rules write_rules mutation_rules
malformed_answer_resets_the_stream = refl

malformed_answer_may_pass : to_upstream (allowing (config NoAsk)) (get_a ∷ Answered None ∷ [])
    ≡ codes "GET / HTTP/1.1\r\nhost: a\r\nconnection: close\r\n\r\n"
unfolding digits rules read_rules write_rules mutation_rules
malformed_answer_may_pass = refl

malformed_answer_that_passes_resets_the_stream : end_of (allowing (config NoAsk)) (get_a ∷ Answered None ∷ []) ≡ Some false
unfolding digits rules read_rules write_rules mutation_rules
malformed_answer_that_passes_resets_the_stream = refl

-- a body answer's header mutation has no effect in STREAMED, and is judged all the same

invalid_item_of_a_streamed_piece_is_500 : fate_of (config Streamed) (post (codes "ab") ∷ headers_answered ∷ answer (member.RequestBody (mutating (setting (codes "a b") (codes "1") 0))) ∷ [])
    ≡ Replied (local_reply 500)
unfolding digits rules read_rules write_rules mutation_rules
invalid_item_of_a_streamed_piece_is_500 = refl

forbidden_item_of_a_streamed_piece_refuses : fate_of (with_rules (record no_rules { disallow_is_error = true }) (allowing (config Streamed)))
    (post (codes "ab") ∷ headers_answered ∷ answer (member.RequestBody (mutating (setting (codes "x-envoy-a") (codes "1") 0))) ∷ [])
    ≡ Replied (local_reply 500)
unfolding digits rules read_rules write_rules mutation_rules
forbidden_item_of_a_streamed_piece_refuses = refl

header_of_a_streamed_piece_has_no_effect : to_upstream (config Streamed) (post (codes "ab") ∷ headers_answered ∷ answer (member.RequestBody (mutating (setting (codes "x-a") (codes "1") 0))) ∷ [])
    ≡ codes "POST / HTTP/1.1\r\nhost: a\r\ntransfer-encoding: chunked\r\nconnection: close\r\n\r\n2\r\nab\r\n0\r\n\r\n"
unfolding digits rules read_rules write_rules mutation_rules
header_of_a_streamed_piece_has_no_effect = refl

-- Replacement

abbrev replaces_with_post : ViewEntry
replaces_with_post = answer (member.RequestHeaders (record {
  replace = true;
  headers = setting (codes ":method") (codes "POST") 2;
  body = change.Bytes (codes "hi");
}))

replaces_method_and_body : to_upstream (with_rules (record no_rules { allow_all_routing = true }) (config NoAsk)) (get_a ∷ replaces_with_post ∷ [])
    ≡ codes "POST / HTTP/1.1\r\nhost: a\r\ncontent-length: 2\r\nconnection: close\r\n\r\nhi"
unfolding digits rules read_rules write_rules mutation_rules
replaces_method_and_body = refl

routing_is_not_allowed : to_upstream (config NoAsk) (get_a ∷ replaces_with_post ∷ [])
    ≡ codes "GET / HTTP/1.1\r\nhost: a\r\ncontent-length: 2\r\nconnection: close\r\n\r\nhi"
unfolding digits rules read_rules write_rules mutation_rules
routing_is_not_allowed = refl

forbidden_item_is_an_error : fate_of (with_rules (record no_rules { disallow_is_error = true }) (allowing (config NoAsk))) (get_a ∷ replaces_with_post ∷ [])
    ≡ Replied (local_reply 500)
unfolding digits rules read_rules write_rules mutation_rules
forbidden_item_is_an_error = refl

forbidden_item_is_an_error_under_deny : fate_of (with_rules (record no_rules { disallow_is_error = true }) (config NoAsk)) (get_a ∷ replaces_with_post ∷ [])
    ≡ Replied (local_reply 500)
unfolding digits rules read_rules write_rules mutation_rules
forbidden_item_is_an_error_under_deny = refl

-- the body that was replaced is read and dropped; without a body mutation it passes
abbrev replaces_nothing : ViewEntry
replaces_nothing = answer (member.RequestHeaders (record { replace = true; headers = unchanged; body = change.Absent }))

replaced_body_is_dropped : to_upstream (config Streamed) (post (codes "abc") ∷ replaces_with_post ∷ [])
    ≡ codes "POST / HTTP/1.1\r\nhost: a\r\ncontent-length: 2\r\nconnection: close\r\n\r\nhi"
unfolding digits rules read_rules write_rules mutation_rules
replaced_body_is_dropped = refl

replaced_without_body_passes : to_upstream (config Streamed) (post (codes "abc") ∷ replaces_nothing ∷ [])
    ≡ codes "POST / HTTP/1.1\r\nhost: a\r\ncontent-length: 3\r\nconnection: close\r\n\r\nabc"
unfolding digits rules read_rules write_rules mutation_rules
replaced_without_body_passes = refl

replaced_message_is_asked_no_more : drop 1 (asks (config Streamed) (post (codes "abc") ∷ replaces_nothing ∷ [])) ≡ []
unfolding digits rules read_rules write_rules mutation_rules
replaced_message_is_asked_no_more = refl

-- Trailers

abbrev with_trailers : FilterConfig
with_trailers = record (config NoAsk) { response = record skip { trailers = true } }

abbrev trailed : List ViewEntry
trailed = get_a ∷ headers_answered
    ∷ Bytes Upstream (codes "HTTP/1.1 200 OK\r\nTransfer-Encoding: chunked\r\n\r\n2\r\nok\r\n0\r\nX-T: 1\r\n\r\n") ∷ []

trailers_are_asked : drop 1 (asks with_trailers trailed) ≡ ask.ResponseTrailers (field (codes "x-t") (codes "1") ∷ []) ∷ []
unfolding digits rules read_rules write_rules mutation_rules
trailers_are_asked = refl

trailers_are_removed : to_client with_trailers (trailed ++ answer (member.ResponseTrailers (removing (codes "x-t"))) ∷ [])
    ≡ codes "HTTP/1.1 200 OK\r\ntransfer-encoding: chunked\r\nconnection: close\r\n\r\n2\r\nok\r\n0\r\n\r\n"
unfolding digits rules read_rules write_rules mutation_rules
trailers_are_removed = refl

trailers_are_kept : to_client with_trailers (trailed ++ answer (member.ResponseTrailers unchanged) ∷ [])
    ≡ codes "HTTP/1.1 200 OK\r\ntransfer-encoding: chunked\r\nconnection: close\r\n\r\n2\r\nok\r\n0\r\nx-t: 1\r\n\r\n"
unfolding digits rules read_rules write_rules mutation_rules
trailers_are_kept = refl

-- Mode overrides

abbrev overriding : FilterConfig
overriding = record (config NoAsk) { allow_override = true }

abbrev with_body_mode : ℕ → ViewEntry
with_body_mode n = Answered (Some (record {
  member = member.RequestHeaders (common change.Absent);
  modes = Some (record { numbers = pos 0 ∷ pos 0 ∷ pos n ∷ pos 0 ∷ pos 0 ∷ pos 0 ∷ [] });
  timeout = None;
}))

override_sets_the_body_mode : drop 1 (asks overriding (post (codes "hi") ∷ with_body_mode 2 ∷ [])) ≡ ask.RequestBody (codes "hi") true ∷ []
unfolding digits rules read_rules write_rules mutation_rules
override_sets_the_body_mode = refl

unknown_mode_is_ignored : to_upstream overriding (post (codes "hi") ∷ with_body_mode 4 ∷ [])
    ≡ codes "POST / HTTP/1.1\r\nhost: a\r\ncontent-length: 2\r\nconnection: close\r\n\r\nhi"
unfolding digits rules read_rules write_rules mutation_rules
unknown_mode_is_ignored = refl

override_needs_leave : drop 1 (asks (config NoAsk) (post (codes "hi") ∷ with_body_mode 2 ∷ [])) ≡ []
unfolding digits rules read_rules write_rules mutation_rules
override_needs_leave = refl
