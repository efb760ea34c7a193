-- What is wrong with a message: the first fault of its records in their order, depth first.
use Rattle.std.specs.Prelude.{ℕ, ◌+◌, List, [], ◌∷◌, length, Option, Some, None, option_map, option_and_then, nat_lt, if◌then◌else◌}
use Rattle.std.specs.Str.{is_utf8}
use Rattle.pb_wire.specs.Cursor.{Placed}
use Rattle.pb_wire.specs.Walk.{placed, wire_fault}
use Rattle.ext_msgs.specs.declared.fault.MsgFault.{MsgFault}
use Rattle.ext_msgs.specs.declared.fault.MsgFault.TheVariants.{Wire, Utf8, BadNumber}
use Rattle.ext_msgs.specs.Fields.{span_at, varint_at, low}

infixr 20 ◌else◌
abbrev pub ◌else◌ : {A : Type 0} → Option A → Option A → Option A
(Some x) else o = Some x
None else o = o

-- the first fault of the records
abbrev pub first_of : (Placed → Option MsgFault) → List Placed → Option MsgFault
first_of fault [] = None
first_of fault (p ∷ ps) = fault p else first_of fault ps

-- The first fault of a message that has these bytes, which end at end, and whose records have these faults. Where the
-- bytes are records only in front, the fault that ends them comes behind those of the records.
unfoldable pub first_fault : (Placed → Option MsgFault) → ℕ → List ℕ → Option MsgFault
first_fault fault end bytes = first_of fault (placed end bytes) else option_map Wire (wire_fault end bytes)

-- ---- the kinds of fields in which a record can be at fault

-- a text is UTF-8
abbrev pub text_fault : ℕ → List ℕ → Option MsgFault
text_fault place bytes = if is_utf8 bytes then None else Some (Utf8 place)

abbrev pub text : ℕ → Placed → Option MsgFault
text n p = option_and_then (text_fault p.place) (span_at n p.entry)

-- a number of 32 bits is within bounds
abbrev pub number_within : ℕ → ℕ → ℕ → Placed → Option MsgFault
number_within n least most p = option_and_then (λ v. if nat_lt (low v) least then Some (BadNumber p.place) else (if nat_lt most (low v) then Some (BadNumber p.place) else None)) (varint_at n p.entry)

-- an embedded message, whose records have these faults
abbrev pub message : ℕ → (Placed → Option MsgFault) → Placed → Option MsgFault
message n fault p = option_and_then (λ bytes. first_fault fault (p.start + length bytes) bytes) (span_at n p.entry)

-- ---- the messages

-- of messages with bytes, numbers and truth values alone: BoolValue, HttpBody, StreamedBodyResponse, ProcessingMode, Duration
abbrev pub no_fault : Placed → Option MsgFault
no_fault p = None

-- HeaderValue: key 1 text, value 2 text
abbrev pub header_fault : Placed → Option MsgFault
header_fault p = text 1 p else text 2 p

-- HeaderMap: headers 1 HeaderValue
abbrev pub map_fault : Placed → Option MsgFault
map_fault p = message 1 header_fault p

-- HttpHeaders and HttpTrailers: headers or trailers 1 HeaderMap
abbrev pub fields_fault : Placed → Option MsgFault
fields_fault p = message 1 map_fault p

-- ProcessingRequest: HttpHeaders 2 and 3, HttpBody 4 and 5, HttpTrailers 6 and 7
abbrev pub ask_fault : Placed → Option MsgFault
ask_fault p =
    message 2 fields_fault p else message 3 fields_fault p else message 4 no_fault p else message 5 no_fault p
    else message 6 fields_fault p else message 7 fields_fault p

-- HeaderValueOption: header 1 HeaderValue, append 2 BoolValue, append_action 3 enum from 0 to 3
abbrev pub set_fault : Placed → Option MsgFault
set_fault p = message 1 header_fault p else message 2 no_fault p else number_within 3 0 3 p

-- HeaderMutation: set_headers 1 HeaderValueOption, remove_headers 2 text
abbrev pub mutation_fault : Placed → Option MsgFault
mutation_fault p = message 1 set_fault p else text 2 p

-- BodyMutation: streamed_response 3 StreamedBodyResponse
abbrev pub body_fault : Placed → Option MsgFault
body_fault p = message 3 no_fault p

-- CommonResponse: status 1 enum 0 or 1, header_mutation 2, body_mutation 3
abbrev pub common_fault : Placed → Option MsgFault
common_fault p = number_within 1 0 1 p else message 2 mutation_fault p else message 3 body_fault p

-- HeadersResponse and BodyResponse: response 1 CommonResponse
abbrev pub response_fault : Placed → Option MsgFault
response_fault p = message 1 common_fault p

-- TrailersResponse: header_mutation 1
abbrev pub trailers_fault : Placed → Option MsgFault
trailers_fault p = message 1 mutation_fault p

-- HttpStatus: code 1 enum from 200 to 599
abbrev pub status_fault : Placed → Option MsgFault
status_fault p = number_within 1 200 599 p

-- ImmediateResponse: status 1 HttpStatus, headers 2 HeaderMutation, details 5 text
abbrev pub immediate_fault : Placed → Option MsgFault
immediate_fault p = message 1 status_fault p else message 2 mutation_fault p else text 5 p

-- the members of ProcessingResponse: HeadersResponse 1 and 2, BodyResponse 3 and 4, TrailersResponse 5 and 6,
-- ImmediateResponse 7
abbrev pub member_fault : Placed → Option MsgFault
member_fault p =
    message 1 response_fault p else message 2 response_fault p else message 3 response_fault p else message 4 response_fault p
    else message 5 trailers_fault p else message 6 trailers_fault p else message 7 immediate_fault p

-- ProcessingResponse: mode_override 9 ProcessingMode, override_message_timeout 10 Duration, and the members
abbrev pub answer_fault : Placed → Option MsgFault
answer_fault p = message 9 no_fault p else message 10 no_fault p else member_fault p
