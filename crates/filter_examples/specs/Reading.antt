-- Messages that are read: heads, lengths, chunks, limits and faults.
use Rattle.std.specs.Prelude.{ℕ, suc, ◌≡◌, true, false, List, [], ◌∷◌, ◌++◌, Option, Some, None, codes, refl, replicate}
use Rattle.ext_msgs.specs.declared.lists.Field.{Field}
use Rattle.http_model.specs.Bytes.{field}
use Rattle.http_model.specs.Reading.{Fault, BadHead, LongHead, BadLength, BadChunk, Version, Method, CutShort}
use Rattle.http_model.specs.Reads.{Original, reads, read_rules}
use Rattle.http_model.specs.declared.types.Direction.TheVariants.{Request, Response}
use Rattle.http_model.specs.declared.types.Length.TheVariants.{NoBody}

abbrev request : List ℕ → Original
request bytes = reads Request false bytes false

abbrev response : List ℕ → Original
response bytes = reads Response false bytes false

abbrev get : List ℕ → List Field → Option (List Field)
get path others = Some (field (codes ":method") (codes "GET") ∷ field (codes ":scheme") (codes "http") ∷ field (codes ":authority") (codes "a") ∷ field (codes ":path") path ∷ others)

-- Heads

reads_a_head : (request (codes "GET / HTTP/1.1\r\nHost: a\r\n\r\n")).head ≡ get (codes "/") []
unfolding read_rules
reads_a_head = refl

takes_bare_line_feeds_and_empty_lines : (request (codes "\r\n\nGET / HTTP/1.1\nHost:a\n\n")).head ≡ get (codes "/") []
unfolding read_rules
takes_bare_line_feeds_and_empty_lines = refl

lowers_names_and_trims_values : (request (codes "GET / HTTP/1.1\r\nHost: a\r\nX-A: \t b c \r\n\r\n")).head ≡ get (codes "/") (field (codes "x-a") (codes "b c") ∷ [])
unfolding read_rules
lowers_names_and_trims_values = refl

-- the fields of this connection, those that `connection` lists too, and a second equal length aren't shown
drops_fields_of_the_connection : (request (codes "GET / HTTP/1.1\r\nContent-Length: 05\r\nConnection: X-B , close\r\nx-b: 1\r\nTE: trailers\r\nHost: a\r\ncontent-length: 5\r\nx-c: 2\r\n\r\n")).head
    ≡ get (codes "/") (field (codes "content-length") (codes "05") ∷ field (codes "x-c") (codes "2") ∷ [])
unfolding read_rules
drops_fields_of_the_connection = refl

reads_an_absolute_target : (request (codes "GET HTTP://b:1?q HTTP/1.1\r\nHost: a\r\n\r\n")).head
    ≡ Some (field (codes ":method") (codes "GET") ∷ field (codes ":scheme") (codes "http") ∷ field (codes ":authority") (codes "b:1") ∷ field (codes ":path") (codes "/?q") ∷ [])
unfolding read_rules
reads_an_absolute_target = refl

reads_options_of_the_server : (request (codes "OPTIONS http://b HTTP/1.1\r\nHost: a\r\n\r\n")).head
    ≡ Some (field (codes ":method") (codes "OPTIONS") ∷ field (codes ":scheme") (codes "http") ∷ field (codes ":authority") (codes "b") ∷ field (codes ":path") (codes "*") ∷ [])
unfolding read_rules
reads_options_of_the_server = refl

-- Faults

fault_of : List ℕ → Option Fault
fault_of bytes = (request bytes).fault

old_version_is_refused : fault_of (codes "GET / HTTP/1.0\r\n\r\n") ≡ Some Version
unfolding read_rules fault_of
old_version_is_refused = refl

connect_is_refused : fault_of (codes "CONNECT a:1 HTTP/1.1\r\nHost: a\r\n\r\n") ≡ Some Method
unfolding read_rules fault_of
connect_is_refused = refl

no_host_is_bad : fault_of (codes "GET / HTTP/1.1\r\n\r\n") ≡ Some BadHead
unfolding read_rules fault_of
no_host_is_bad = refl

two_hosts_are_bad : fault_of (codes "GET / HTTP/1.1\r\nHost: a\r\nHost: a\r\n\r\n") ≡ Some BadHead
unfolding read_rules fault_of
two_hosts_are_bad = refl

star_is_for_options_alone : fault_of (codes "GET * HTTP/1.1\r\nHost: a\r\n\r\n") ≡ Some BadHead
unfolding read_rules fault_of
star_is_for_options_alone = refl

length_beside_chunked_is_bad : fault_of (codes "POST / HTTP/1.1\r\nHost: a\r\nContent-Length: 1\r\nTransfer-Encoding: chunked\r\n\r\n") ≡ Some BadLength
unfolding read_rules fault_of
length_beside_chunked_is_bad = refl

unequal_lengths_are_bad : fault_of (codes "POST / HTTP/1.1\r\nHost: a\r\nContent-Length: 1\r\nContent-Length: 2\r\n\r\n") ≡ Some BadLength
unfolding read_rules fault_of
unequal_lengths_are_bad = refl

length_past_63_bits_is_bad : fault_of (codes "POST / HTTP/1.1\r\nHost: a\r\nContent-Length: 9223372036854775808\r\n\r\n") ≡ Some BadLength
unfolding read_rules fault_of
length_past_63_bits_is_bad = refl

other_coding_is_bad : fault_of (codes "POST / HTTP/1.1\r\nHost: a\r\nTransfer-Encoding: gzip, chunked\r\n\r\n") ≡ Some BadLength
unfolding read_rules fault_of
other_coding_is_bad = refl

-- a head isn't judged before its first line is whole, and then at once
first_line_is_awaited : fault_of (codes "G@T / HTTP/1.1\r") ≡ None
unfolding read_rules fault_of
first_line_is_awaited = refl

bad_first_line_is_told_at_its_end : fault_of (codes "G@T / HTTP/1.1\r\n") ≡ Some BadHead
unfolding read_rules fault_of
bad_first_line_is_told_at_its_end = refl

bad_byte_is_told_at_once : fault_of (codes "GET / HTTP/1.1\r\nHost: a\r\nx a") ≡ Some BadHead
unfolding read_rules fault_of
bad_byte_is_told_at_once = refl

lone_carriage_return_is_bad : fault_of (codes "GET / HTTP/1.1\r\nHost: a\rb") ≡ Some BadHead
unfolding read_rules fault_of
lone_carriage_return_is_bad = refl

abbrev numbered : ℕ → List ℕ
numbered ℕ.zero = []
numbered (suc n) = numbered n ++ codes "a:b\r\n"

hundred_fields_are_read : fault_of (codes "GET / HTTP/1.1\r\nHost: a\r\n" ++ numbered 99 ++ codes "\r\n") ≡ None
unfolding read_rules fault_of
hundred_fields_are_read = refl

one_more_field_is_too_long : fault_of (codes "GET / HTTP/1.1\r\nHost: a\r\n" ++ numbered 99 ++ codes "a") ≡ Some LongHead
unfolding read_rules fault_of
one_more_field_is_too_long = refl

long_head_is_refused : fault_of (codes "GET /" ++ replicate 32763 97) ≡ Some LongHead
unfolding read_rules fault_of
long_head_is_refused = refl

shorter_head_is_awaited : fault_of (codes "GET /" ++ replicate 32762 97) ≡ None
unfolding read_rules fault_of
shorter_head_is_awaited = refl

-- Bodies

known_length_is_taken : (request (codes "POST / HTTP/1.1\r\nHost: a\r\nContent-Length: 4\r\n\r\nabcdef")).body ≡ codes "abcd"
unfolding read_rules
known_length_is_taken = refl

abbrev chunked : List ℕ → Original
chunked bytes = request (codes "POST / HTTP/1.1\r\nHost: a\r\nTransfer-Encoding: Chunked\r\n\r\n" ++ bytes)

chunks_are_joined : (chunked (codes "2\r\nok\r\n00B ; x=y\r\nhello world\r\n3\r\n!")).body ≡ codes "okhello world!"
unfolding read_rules
chunks_are_joined = refl

trailers_are_read : (chunked (codes "2\r\nok\r\n0\r\nX-T: 1\r\nTE: x\r\n\r\n")).trailers ≡ field (codes "x-t") (codes "1") ∷ []
unfolding read_rules
trailers_are_read = refl

chunks_without_trailers_end : (chunked (codes "0\r\n\r\n")).whole ≡ true
unfolding read_rules
chunks_without_trailers_end = refl

chunk_without_size_is_bad : (chunked (codes " 2")).fault ≡ Some BadChunk
unfolding read_rules
chunk_without_size_is_bad = refl

chunk_line_with_bare_line_feed_is_bad : (chunked (codes "2\nok")).fault ≡ Some BadChunk
unfolding read_rules
chunk_line_with_bare_line_feed_is_bad = refl

seventeen_digits_are_bad : (chunked (codes "00000000000000002")).fault ≡ Some BadChunk
unfolding read_rules
seventeen_digits_are_bad = refl

chunk_without_end_is_bad : (chunked (codes "2\r\nokx")).fault ≡ Some BadChunk
unfolding read_rules
chunk_without_end_is_bad = refl

long_chunk_line_is_bad : (chunked (codes "1;" ++ replicate 4094 97)).fault ≡ Some BadChunk
unfolding read_rules
long_chunk_line_is_bad = refl

bad_trailers_are_a_bad_chunk : (chunked (codes "0\r\nx a")).fault ≡ Some BadChunk
unfolding read_rules
bad_trailers_are_a_bad_chunk = refl

-- Responses

interim_responses_come_off : (response (codes "HTTP/1.1 103 Early\r\nContent-Length: x\r\n\r\nHTTP/1.1 200\r\n\r\nab")).body ≡ codes "ab"
unfolding read_rules
interim_responses_come_off = refl

switching_protocols_is_bad : (response (codes "HTTP/1.1 101 Switching\r\n\r\n")).fault ≡ Some BadHead
unfolding read_rules
switching_protocols_is_bad = refl

close_ends_a_response : (reads Response false (codes "HTTP/1.0 200 OK\r\n\r\nab") true).whole ≡ true
unfolding read_rules
close_ends_a_response = refl

old_response_has_no_coding : (response (codes "HTTP/1.0 200 OK\r\nTransfer-Encoding: chunked\r\n\r\n")).fault ≡ Some BadLength
unfolding read_rules
old_response_has_no_coding = refl

head_has_no_body : (reads Response true (codes "HTTP/1.1 200 OK\r\nContent-Length: 3\r\n\r\n") false).length ≡ NoBody
unfolding read_rules
head_has_no_body = refl

early_end_cuts_short : (reads Response false (codes "HTTP/1.1 200 OK\r\nContent-Length: 3\r\n\r\nab") true).fault ≡ Some CutShort
unfolding read_rules
early_end_cuts_short = refl

client_may_leave_before_its_first_byte : (reads Request false [] true).fault ≡ None
unfolding read_rules
client_may_leave_before_its_first_byte = refl
