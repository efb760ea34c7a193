-- What a message says: the value of its records, by the table of its fields.
use Rattle.std.specs.Prelude.{ℕ, ℤ, zero, suc, Bool, List, [], ◌∷◌, Option, Some, None, Result, Ok, Err, is_some, map, ◌&&◌, nat_lt, ◌==◌, if◌then◌else◌}
use Rattle.pb_wire.specs.Records.{Entry}
use Rattle.pb_wire.specs.Walk.{entries}
use Rattle.ext_msgs.specs.declared.fault.MsgFault.{MsgFault}
use Rattle.ext_msgs.specs.declared.fault.MsgFault.TheVariants.{BadNumber, NoMember}
use Rattle.ext_msgs.specs.declared.lists.Field.{Field}
use Rattle.ext_msgs.specs.declared.lists.SetField.{SetField}
use Rattle.ext_msgs.specs.declared.answer.HeaderMutation.{HeaderMutation}
use Rattle.ext_msgs.specs.declared.answer.BodyChange.{BodyChange}
use Rattle.ext_msgs.specs.declared.answer.BodyChange.TheVariants.{Absent, Bytes, Clear, Streamed}
use Rattle.ext_msgs.specs.declared.answer.Common.{Common}
use Rattle.ext_msgs.specs.declared.answer.ModeNumbers.{ModeNumbers}
use Rattle.ext_msgs.specs.declared.answer.Span.{Span}
use Rattle.ext_msgs.specs.declared.answer.Member.{Member}
use Rattle.ext_msgs.specs.declared.answer.Member.TheVariants as members
use Rattle.ext_msgs.specs.declared.answer.Answer.{Answer}
use Rattle.ext_msgs.specs.declared.ask.Ask.{Ask}
use Rattle.ext_msgs.specs.declared.ask.Ask.TheVariants as asks
use Rattle.ext_msgs.specs.Fields.{bytes_in, span_at, varint_at, spans, varints, last_or, bytes_of, number_of, inside, if_any, is_set, low, int32, int64, latest}

-- ---- fields

-- raw_value, or value where that is empty
abbrev pub value_or : List ℕ → List ℕ → List ℕ
value_or [] value = value
value_or (b ∷ raw) value = b ∷ raw

-- HeaderValue: key 1 text, value 2 text, raw_value 3 bytes
abbrev pub field : List Entry → Field
field es = record { name = bytes_of 1 es; value = value_or (bytes_of 3 es) (bytes_of 2 es) }

-- HeaderMap: headers 1 repeated HeaderValue
abbrev pub fields : List Entry → List Field
fields es = map (λ bytes. field (entries bytes)) (spans 1 es)

-- Where append occurs, it decides what is done: true appends, false overwrites or appends.
abbrev pub action_of : List (List ℕ) → Bool → ℕ → ℕ
action_of [] append action = action
action_of (occurrence ∷ more) append action = if append then 0 else 2

-- HeaderValueOption: header 1 HeaderValue, append 2 BoolValue (value 1 bool), append_action 3 enum
abbrev pub set_field : List Entry → SetField
set_field es = record { name = (field (inside 1 es)).name; value = (field (inside 1 es)).value; action = action_of (spans 2 es) (is_set (number_of 1 (inside 2 es))) (low (number_of 3 es)) }

-- HeaderMutation: set_headers 1 repeated HeaderValueOption, remove_headers 2 repeated text
abbrev pub mutation : List Entry → HeaderMutation
mutation es = record { set = map (λ bytes. set_field (entries bytes)) (spans 1 es); remove = spans 2 es }

-- ---- asks

-- the members of ProcessingRequest: HttpHeaders 2 and 3, HttpBody 4 and 5, HttpTrailers 6 and 7
pub data Part : Type 0 where
  no_part : Part
  heads : Part
  bodies : Part
  tails : Part

abbrev pub part_of : ℕ → Part
part_of n = if nat_lt 1 n && nat_lt n 4 then heads else (if nat_lt 3 n && nat_lt n 6 then bodies else (if nat_lt 5 n && nat_lt n 8 then tails else no_part))

abbrev pub known_part : Part → ℕ → ℕ
known_part no_part n = 0
known_part heads n = n
known_part bodies n = n
known_part tails n = n

abbrev pub part_in : ℕ → Option (List ℕ) → ℕ
part_in n None = 0
part_in n (Some bytes) = known_part (part_of n) n

-- the number of the member that a record sets, or 0
abbrev pub ask_member : Entry → ℕ
ask_member e = part_in e.number (bytes_in e.content)

-- HttpHeaders: headers 1 HeaderMap, end_of_stream 3 bool
abbrev pub headers_ask : (List Field → Bool → Ask) → List Entry → Ask
headers_ask ask es = ask (fields (inside 1 es)) (is_set (number_of 3 es))

-- HttpBody: body 1 bytes, end_of_stream 2 bool
abbrev pub body_ask : (List ℕ → Bool → Ask) → List Entry → Ask
body_ask ask es = ask (bytes_of 1 es) (is_set (number_of 2 es))

-- HttpTrailers: trailers 1 HeaderMap
abbrev pub trailers_ask : (List Field → Ask) → List Entry → Ask
trailers_ask ask es = ask (fields (inside 1 es))

-- by the member set last, and its occurrences
abbrev pub ask_by : ℕ → List Entry → Result Ask MsgFault
ask_by n run =
    if n == 2 then Ok (headers_ask asks.RequestHeaders (inside 2 run)) else
    (if n == 3 then Ok (headers_ask asks.ResponseHeaders (inside 3 run)) else
    (if n == 4 then Ok (body_ask asks.RequestBody (inside 4 run)) else
    (if n == 5 then Ok (body_ask asks.ResponseBody (inside 5 run)) else
    (if n == 6 then Ok (trailers_ask asks.RequestTrailers (inside 6 run)) else
    (if n == 7 then Ok (trailers_ask asks.ResponseTrailers (inside 7 run)) else Err NoMember)))))

-- ProcessingRequest
abbrev pub ask_value : List Entry → Result Ask MsgFault
ask_value es = ask_by (latest ask_member es).0 (latest ask_member es).1

-- ---- answers

-- BodyMutation, a oneof: body 1 bytes, clear_body 2 bool, streamed_response 3
abbrev pub body_member : Entry → ℕ
body_member e = if is_some (span_at 1 e) then 1 else (if is_some (varint_at 2 e) then 2 else (if is_some (span_at 3 e) then 3 else 0))

-- StreamedBodyResponse: body 1 bytes, end_of_stream 2 bool
abbrev pub streamed : List Entry → BodyChange
streamed es = Streamed (bytes_of 1 es) (is_set (number_of 2 es))

-- by the member set last, and its occurrences
abbrev pub body_by : ℕ → List Entry → BodyChange
body_by (suc zero) run = Bytes (bytes_of 1 run)
body_by (suc (suc zero)) run = Clear (is_set (number_of 2 run))
body_by (suc (suc (suc zero))) run = streamed (inside 3 run)
body_by none run = Absent

abbrev pub body_change : List Entry → BodyChange
body_change es = body_by (latest body_member es).0 (latest body_member es).1

abbrev pub is_one : ℕ → Bool
is_one n = low n == 1

-- CommonResponse: status 1 enum, header_mutation 2, body_mutation 3
abbrev pub common : List Entry → Common
common es = record { replace = is_one (number_of 1 es); headers = mutation (inside 2 es); body = body_change (inside 3 es) }

-- HttpStatus: code 1 enum
abbrev pub status_code : List Entry → Option ℕ
status_code es = last_or None (map (λ n. Some (low n)) (varints 1 es))

-- ImmediateResponse: status 1 HttpStatus, headers 2 HeaderMutation, body 3 bytes
abbrev pub code : List Entry → Option ℕ
code es = status_code (inside 1 es)

-- the code has to be there: the place is that of the response's last occurrence
abbrev pub immediate : ℕ → Option ℕ → List Entry → Result Member MsgFault
immediate place None es = Err (BadNumber place)
immediate place (Some status) es = Ok (members.Immediate (record { code = status; headers = mutation (inside 2 es); body = bytes_of 3 es }))

-- ProcessingMode: six enums, 1 to 6
abbrev pub mode_of : ℕ → List Entry → ℤ
mode_of n es = int32 (number_of n es)

abbrev pub modes : List Entry → ModeNumbers
modes es = record { numbers = mode_of 1 es ∷ mode_of 2 es ∷ mode_of 3 es ∷ mode_of 4 es ∷ mode_of 5 es ∷ mode_of 6 es ∷ [] }

-- Duration: seconds 1 int64, nanos 2 int32
abbrev pub duration : List Entry → Span
duration es = record { seconds = int64 (number_of 1 es); nanos = int32 (number_of 2 es) }

-- the members of ProcessingResponse: HeadersResponse 1 and 2, BodyResponse 3 and 4, TrailersResponse 5 and 6,
-- ImmediateResponse 7
pub data Kind : Type 0 where
  no_kind : Kind
  answers : Kind
  trails : Kind
  ends : Kind

abbrev pub kind_of : ℕ → Kind
kind_of n = if nat_lt 0 n && nat_lt n 5 then answers else (if nat_lt 4 n && nat_lt n 7 then trails else (if n == 7 then ends else no_kind))

abbrev pub known_kind : Kind → ℕ → ℕ
known_kind no_kind n = 0
known_kind answers n = n
known_kind trails n = n
known_kind ends n = n

abbrev pub member_in : ℕ → Option (List ℕ) → ℕ
member_in n None = 0
member_in n (Some bytes) = known_kind (kind_of n) n

-- the number of the member that a record sets, or 0
abbrev pub answer_member : Entry → ℕ
answer_member e = member_in e.number (bytes_in e.content)

-- HeadersResponse and BodyResponse: response 1 CommonResponse
abbrev pub response : List Entry → Common
response es = common (inside 1 es)

-- TrailersResponse: header_mutation 1 HeaderMutation
abbrev pub trailers : List Entry → HeaderMutation
trailers es = mutation (inside 1 es)

-- By the member set last and its occurrences, with the place of the last immediate response, and whether there is a
-- timeout: without a member there has to be one.
abbrev pub member_by : ℕ → Bool → ℕ → List Entry → Result Member MsgFault
member_by place timed n run =
    if n == 1 then Ok (members.RequestHeaders (response (inside 1 run))) else
    (if n == 2 then Ok (members.ResponseHeaders (response (inside 2 run))) else
    (if n == 3 then Ok (members.RequestBody (response (inside 3 run))) else
    (if n == 4 then Ok (members.ResponseBody (response (inside 4 run))) else
    (if n == 5 then Ok (members.RequestTrailers (trailers (inside 5 run))) else
    (if n == 6 then Ok (members.ResponseTrailers (trailers (inside 6 run))) else
    (if n == 7 then immediate place (code (inside 7 run)) (inside 7 run) else
    (if timed then Ok members.Unset else Err NoMember)))))))

-- mode_override 9 ProcessingMode
abbrev pub answer_modes : List Entry → Option ModeNumbers
answer_modes es = if_any (spans 9 es) (modes (inside 9 es))

-- override_message_timeout 10 Duration
abbrev pub answer_timeout : List Entry → Option Span
answer_timeout es = if_any (spans 10 es) (duration (inside 10 es))

abbrev pub with_member : Option ModeNumbers → Option Span → Result Member MsgFault → Result Answer MsgFault
with_member modes timeout (Ok member) = Ok (record { member = member; modes = modes; timeout = timeout })
with_member modes timeout (Err e) = Err e

-- ProcessingResponse
abbrev pub answer_value : ℕ → List Entry → Result Answer MsgFault
answer_value place es = with_member (answer_modes es) (answer_timeout es) (member_by place (is_some (answer_timeout es)) (latest answer_member es).0 (latest answer_member es).1)
