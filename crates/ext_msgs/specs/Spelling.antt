-- How messages are spelled: the records of their fields in ascending order, defaults left out. Embedded messages, members
-- of a oneof and items of a repeated field are written where they are there, also when they are empty.
use Rattle.std.specs.Prelude.{ℕ, zero, suc, ℤ, Bool, true, false, List, [], ◌∷◌, ◌++◌, Option, Some, None, map}
use Rattle.std.specs.Int.{w64, cast_unsigned}
use Rattle.pb_wire.specs.Records.{varint, span, Entry}
use Rattle.pb_wire.specs.Canonical.{spelling}
use Rattle.ext_msgs.specs.declared.lists.Field.{Field}
use Rattle.ext_msgs.specs.declared.lists.SetField.{SetField}
use Rattle.ext_msgs.specs.declared.ask.Ask.{Ask}
use Rattle.ext_msgs.specs.declared.ask.Ask.TheVariants as asks
use Rattle.ext_msgs.specs.declared.answer.HeaderMutation.{HeaderMutation}
use Rattle.ext_msgs.specs.declared.answer.BodyChange.{BodyChange}
use Rattle.ext_msgs.specs.declared.answer.BodyChange.TheVariants.{Absent, Bytes, Clear, Streamed}
use Rattle.ext_msgs.specs.declared.answer.Common.{Common}
use Rattle.ext_msgs.specs.declared.answer.Immediate.{Immediate}
use Rattle.ext_msgs.specs.declared.answer.ModeNumbers.{ModeNumbers}
use Rattle.ext_msgs.specs.declared.answer.Span.{Span}
use Rattle.ext_msgs.specs.declared.answer.Member.{Member}
use Rattle.ext_msgs.specs.declared.answer.Member.TheVariants as members
use Rattle.ext_msgs.specs.declared.answer.Answer.{Answer}

-- ---- the kinds of fields

-- bytes or a text, also when empty
abbrev pub present : ℕ → List ℕ → Entry
present number bytes = record { number = number; content = span bytes }

-- bytes or a text, left out when empty
abbrev pub filled : ℕ → List ℕ → List Entry
filled number [] = []
filled number (b ∷ bytes) = present number (b ∷ bytes) ∷ []

-- a number, also when 0
abbrev pub counted : ℕ → ℕ → Entry
counted number value = record { number = number; content = varint value }

-- a number, left out when 0
abbrev pub some_number : ℕ → ℕ → List Entry
some_number number zero = []
some_number number (suc value) = counted number (suc value) ∷ []

-- a signed number of any width: a negative one has the ten bytes of its 64 bits
abbrev pub some_signed : ℕ → ℤ → List Entry
some_signed number value = some_number number (cast_unsigned w64 value)

-- a truth value as a number
abbrev pub bit : Bool → ℕ
bit true = 1
bit false = 0

-- a truth value, left out when false
abbrev pub flag : ℕ → Bool → List Entry
flag number value = some_number number (bit value)

-- an embedded message of these records, also when there is none
abbrev pub embedded : ℕ → List Entry → Entry
embedded number es = present number (spelling es)

-- an embedded message, left out when there is none
abbrev pub some_embedded : ℕ → List Entry → List Entry
some_embedded number es = filled number (spelling es)

-- ---- asks

-- HeaderValue: key 1, raw_value 3
abbrev pub header_records : List ℕ → List ℕ → List Entry
header_records name value = filled 1 name ++ filled 3 value

-- HeaderMap: headers 1
abbrev pub field_record : Field → Entry
field_record field = embedded 1 (header_records field.name field.value)

abbrev pub map_records : List Field → List Entry
map_records fields = map field_record fields

-- HttpHeaders: headers 1, end_of_stream 3
abbrev pub headers_records : List Field → Bool → List Entry
headers_records fields end = embedded 1 (map_records fields) ∷ flag 3 end

-- HttpBody, and StreamedBodyResponse: body 1, end_of_stream 2
abbrev pub body_records : List ℕ → Bool → List Entry
body_records body end = filled 1 body ++ flag 2 end

-- HttpTrailers: trailers 1
abbrev pub trailers_records : List Field → List Entry
trailers_records fields = embedded 1 (map_records fields) ∷ []

-- ProcessingRequest: request_headers 2, response_headers 3, request_body 4, response_body 5, request_trailers 6,
-- response_trailers 7
abbrev pub ask_record : Ask → Entry
ask_record (asks.RequestHeaders fields end) = embedded 2 (headers_records fields end)
ask_record (asks.ResponseHeaders fields end) = embedded 3 (headers_records fields end)
ask_record (asks.RequestBody body end) = embedded 4 (body_records body end)
ask_record (asks.ResponseBody body end) = embedded 5 (body_records body end)
ask_record (asks.RequestTrailers fields) = embedded 6 (trailers_records fields)
ask_record (asks.ResponseTrailers fields) = embedded 7 (trailers_records fields)

abbrev pub ask : Ask → List ℕ
ask a = spelling (ask_record a ∷ [])

-- ---- answers

-- HeaderValueOption: header 1, append_action 3
abbrev pub set_records : SetField → List Entry
set_records field = embedded 1 (header_records field.name field.value) ∷ some_number 3 field.action

-- HeaderMutation: set_headers 1, remove_headers 2
abbrev pub set_record : SetField → Entry
set_record field = embedded 1 (set_records field)

abbrev pub removal_record : List ℕ → Entry
removal_record name = present 2 name

abbrev pub mutation_records : HeaderMutation → List Entry
mutation_records m = map set_record m.set ++ map removal_record m.remove

-- BodyMutation: body 1, clear_body 2, streamed_response 3
abbrev pub change_records : BodyChange → List Entry
change_records Absent = []
change_records (Bytes bytes) = present 1 bytes ∷ []
change_records (Clear on) = counted 2 (bit on) ∷ []
change_records (Streamed body end) = embedded 3 (body_records body end) ∷ []

-- CommonResponse: status 1 (CONTINUE_AND_REPLACE is 1), header_mutation 2, body_mutation 3
abbrev pub common_records : Common → List Entry
common_records c = flag 1 c.replace ++ (some_embedded 2 (mutation_records c.headers) ++ some_embedded 3 (change_records c.body))

-- HeadersResponse and BodyResponse: response 1
abbrev pub response_records : Common → List Entry
response_records c = some_embedded 1 (common_records c)

-- TrailersResponse: header_mutation 1
abbrev pub trailers_response_records : HeaderMutation → List Entry
trailers_response_records m = some_embedded 1 (mutation_records m)

-- ImmediateResponse: status 1 HttpStatus (code 1), headers 2, body 3
abbrev pub immediate_records : Immediate → List Entry
immediate_records i = embedded 1 (some_number 1 i.code) ∷ (some_embedded 2 (mutation_records i.headers) ++ filled 3 i.body)

-- the members of ProcessingResponse: request_headers 1, response_headers 2, request_body 3, response_body 4,
-- request_trailers 5, response_trailers 6, immediate_response 7
abbrev pub member_records : Member → List Entry
member_records members.Unset = []
member_records (members.RequestHeaders c) = embedded 1 (response_records c) ∷ []
member_records (members.ResponseHeaders c) = embedded 2 (response_records c) ∷ []
member_records (members.RequestBody c) = embedded 3 (response_records c) ∷ []
member_records (members.ResponseBody c) = embedded 4 (response_records c) ∷ []
member_records (members.RequestTrailers m) = embedded 5 (trailers_response_records m) ∷ []
member_records (members.ResponseTrailers m) = embedded 6 (trailers_response_records m) ∷ []
member_records (members.Immediate i) = embedded 7 (immediate_records i) ∷ []

-- ProcessingMode: the numbers are fields from 1 on
abbrev pub numbered : ℕ → List ℤ → List Entry
numbered number [] = []
numbered number (z ∷ zs) = some_signed number z ++ numbered (suc number) zs

abbrev pub mode_records : Option ModeNumbers → List Entry
mode_records None = []
mode_records (Some modes) = embedded 9 (numbered 1 modes.numbers) ∷ []

-- Duration: seconds 1, nanos 2
abbrev pub duration_records : Span → List Entry
duration_records s = some_signed 1 s.seconds ++ some_signed 2 s.nanos

abbrev pub timeout_records : Option Span → List Entry
timeout_records None = []
timeout_records (Some timeout) = embedded 10 (duration_records timeout) ∷ []

-- ProcessingResponse: a member, mode_override 9, override_message_timeout 10
abbrev pub answer_records : Answer → List Entry
answer_records a = member_records a.member ++ (mode_records a.modes ++ timeout_records a.timeout)

abbrev pub answer : Answer → List ℕ
answer a = spelling (answer_records a)
