-- What a reader keeps of the records so far, and what one more record adds. After all records the first is the message's
-- value.
use Rattle.std.specs.Prelude.{◌≡◌, ℕ, ℤ, Bool, List, [], ◌∷◌, ◌++◌, Option, Some, None, Result, Ok, Err, option_map, unwrap_or, is_some, fold, ◌==◌, if◌then◌else◌}
use Rattle.pb_wire.specs.Records.{Entry}
use Rattle.pb_wire.specs.Cursor.{Placed}
use Rattle.pb_wire.specs.Walk.{entries}
use Rattle.ext_msgs.specs.declared.fault.MsgFault.{MsgFault}
use Rattle.ext_msgs.specs.declared.fault.MsgFault.TheVariants.{Wire, Utf8, BadNumber, NoMember, Memory}
use Rattle.ext_msgs.specs.declared.lists.Field.{Field}
use Rattle.ext_msgs.specs.declared.lists.SetField.{SetField}
use Rattle.ext_msgs.specs.declared.header.HeaderParts.{HeaderParts}
use Rattle.ext_msgs.specs.declared.flag.FlagParts.{FlagParts}
use Rattle.ext_msgs.specs.declared.mutation.SetParts.{SetParts}
use Rattle.ext_msgs.specs.declared.body.StreamParts.{StreamParts}
use Rattle.ext_msgs.specs.declared.common.ResponseParts.{ResponseParts}
use Rattle.ext_msgs.specs.declared.common.TrailerParts.{TrailerParts}
use Rattle.ext_msgs.specs.declared.immediate.StatusParts.{StatusParts}
use Rattle.ext_msgs.specs.declared.immediate.ImmediateParts.{ImmediateParts}
use Rattle.ext_msgs.specs.declared.overrides.ModeParts.{ModeParts}
use Rattle.ext_msgs.specs.declared.answer_parts.MemberParts.{MemberParts}
use Rattle.ext_msgs.specs.declared.answer_parts.AnswerParts.{AnswerParts}
use Rattle.ext_msgs.specs.declared.ask_parts.MapParts.{MapParts}
use Rattle.ext_msgs.specs.declared.ask_parts.HeadParts.{HeadParts}
use Rattle.ext_msgs.specs.declared.ask_parts.TailParts.{TailParts}
use Rattle.ext_msgs.specs.declared.ask_parts.AskParts.{AskParts}
use Rattle.ext_msgs.specs.declared.ask.Ask.{Ask}
use Rattle.ext_msgs.specs.declared.ask.Ask.TheVariants as asks
use Rattle.ext_msgs.specs.declared.answer.HeaderMutation.{HeaderMutation}
use Rattle.ext_msgs.specs.declared.answer.BodyChange.{BodyChange}
use Rattle.ext_msgs.specs.declared.answer.BodyChange.TheVariants.{Absent, Bytes, Clear, Streamed}
use Rattle.ext_msgs.specs.declared.answer.Common.{Common}
use Rattle.ext_msgs.specs.declared.answer.ModeNumbers.{ModeNumbers}
use Rattle.ext_msgs.specs.declared.answer.Span.{Span}
use Rattle.ext_msgs.specs.declared.answer.Member.{Member}
use Rattle.ext_msgs.specs.declared.answer.Member.TheVariants as members
use Rattle.ext_msgs.specs.declared.answer.Answer.{Answer}
use Rattle.ext_msgs.specs.Fields.{span_at, varint_at, bytes_in, spans, bytes_of, number_of, inside, if_any, is_set, low, int32, int64, latest}
use Rattle.ext_msgs.specs.MessageFault.{first_fault}
use Rattle.ext_msgs.specs.MessageValue.{value_or, fields, mutation, Part, no_part, heads, bodies, tails, part_of, ask_member, is_one, common, status_code, mode_of, duration, Kind, no_kind, answers, trails, ends, kind_of, answer_member, with_member}

-- ---- what one more record adds to a field

abbrev pub filled : {S : Type 0} → (S → Entry → S) → S → Option (List ℕ) → S
filled add s None = s
filled add s (Some bytes) = fold add s (entries bytes)

-- as filled, but from nothing where it was absent
abbrev pub filled_if : {S : Type 0} → (S → Entry → S) → S → Option S → Option (List ℕ) → Option S
filled_if add start s None = s
filled_if add start None (Some bytes) = Some (fold add start (entries bytes))
filled_if add start (Some s) (Some bytes) = Some (fold add s (entries bytes))

abbrev pub pushed : {X : Type 0} → List X → (List ℕ → X) → Option (List ℕ) → List X
pushed xs f None = xs
pushed xs f (Some bytes) = xs ++ f bytes ∷ []

-- ---- what is said of reading

-- A refusal is that fault, or that memory ran out.
abbrev pub Refuses : MsgFault → Option MsgFault → Type 0
Refuses Memory found = Unit {0}
Refuses (Wire f) found = found ≡ Some (Wire f)
Refuses (Utf8 n) found = found ≡ Some (Utf8 n)
Refuses (BadNumber n) found = found ≡ Some (BadNumber n)
Refuses NoMember found = found ≡ Some NoMember

-- one record
abbrev pub Takes : {S : Type 0} → (Placed → Option MsgFault) → (S → Entry → S) → S → S → Placed → Result Unit MsgFault → Type 0
Takes fault add old new p (Ok _) = (fault p ≡ None) × (new ≡ add old p.entry)
Takes fault add old new p (Err e) = Refuses e (fault p)

-- all records of some bytes
abbrev pub Fills : {S : Type 0} → (Placed → Option MsgFault) → (S → Entry → S) → S → S → ℕ → List ℕ → Result Unit MsgFault → Type 0
Fills fault add old new end bytes (Ok _) = (first_fault fault end bytes ≡ None) × (new ≡ fold add old (entries bytes))
Fills fault add old new end bytes (Err e) = Refuses e (first_fault fault end bytes)

-- a message read from nothing
abbrev pub Reads : {S : Type 0} → (Placed → Option MsgFault) → S → ℕ → List ℕ → Result S MsgFault → Type 0
Reads fault value end bytes (Ok s) = (first_fault fault end bytes ≡ None) × (s ≡ value)
Reads fault value end bytes (Err e) = Refuses e (first_fault fault end bytes)

-- ---- fields

abbrev pub header_parts : List Entry → HeaderParts
header_parts es = record { key = bytes_of 1 es; value = bytes_of 2 es; raw_value = bytes_of 3 es }

abbrev pub header_add : HeaderParts → Entry → HeaderParts
header_add h e = record { key = unwrap_or (span_at 1 e) h.key; value = unwrap_or (span_at 2 e) h.value; raw_value = unwrap_or (span_at 3 e) h.raw_value }

abbrev pub finished_field : HeaderParts → Field
finished_field h = record { name = h.key; value = value_or h.raw_value h.value }

abbrev pub flag_parts : List Entry → FlagParts
flag_parts es = record { value = is_set (number_of 1 es) }

abbrev pub flag_add : FlagParts → Entry → FlagParts
flag_add f e = record { value = unwrap_or (option_map is_set (varint_at 1 e)) f.value }

abbrev pub set_parts : List Entry → SetParts
set_parts es = record { header = header_parts (inside 1 es); append = if_any (spans 2 es) (flag_parts (inside 2 es)); action = low (number_of 3 es) }

abbrev pub set_add : SetParts → Entry → SetParts
set_add s e = record { header = filled header_add s.header (span_at 1 e); append = filled_if flag_add (flag_parts []) s.append (span_at 2 e); action = unwrap_or (option_map low (varint_at 3 e)) s.action }

abbrev pub action_with : Option FlagParts → ℕ → ℕ
action_with None action = action
action_with (Some append) action = if append.value then 0 else 2

abbrev pub finished_set : SetParts → SetField
finished_set s = record { name = s.header.key; value = value_or s.header.raw_value s.header.value; action = action_with s.append s.action }

abbrev pub mutation_add : HeaderMutation → Entry → HeaderMutation
mutation_add m e = record { set = pushed m.set (λ bytes. finished_set (filled set_add (set_parts []) (Some bytes))) (span_at 1 e); remove = pushed m.remove (λ bytes. bytes) (span_at 2 e) }

-- ---- bodies

abbrev pub stream_parts : List Entry → StreamParts
stream_parts es = record { body = bytes_of 1 es; last = is_set (number_of 2 es) }

abbrev pub stream_add : StreamParts → Entry → StreamParts
stream_add s e = record { body = unwrap_or (span_at 1 e) s.body; last = unwrap_or (option_map is_set (varint_at 2 e)) s.last }

-- the streamed body that more records join
abbrev pub stream_before : BodyChange → StreamParts
stream_before (Streamed body last) = record { body = body; last = last }
stream_before Absent = stream_parts []
stream_before (Bytes bytes) = stream_parts []
stream_before (Clear on) = stream_parts []

abbrev pub finished_stream : StreamParts → BodyChange
finished_stream s = Streamed s.body s.last

abbrev pub or_keep : {A S : Type 0} → (A → S) → S → Option A → S
or_keep f s None = s
or_keep f s (Some x) = f x

abbrev pub body_add : BodyChange → Entry → BodyChange
body_add c e = or_keep Bytes (or_keep (λ v. Clear (is_set v)) (or_keep (λ bytes. finished_stream (filled stream_add (stream_before c) (Some bytes))) c (span_at 3 e)) (varint_at 2 e)) (span_at 1 e)

-- ---- the members of an answer

abbrev pub common_add : Common → Entry → Common
common_add c e = record { replace = unwrap_or (option_map is_one (varint_at 1 e)) c.replace; headers = filled mutation_add c.headers (span_at 2 e); body = filled body_add c.body (span_at 3 e) }

abbrev pub response_parts : List Entry → ResponseParts
response_parts es = record { common = common (inside 1 es) }

abbrev pub response_add : ResponseParts → Entry → ResponseParts
response_add r e = record { common = filled common_add r.common (span_at 1 e) }

abbrev pub trailer_parts : List Entry → TrailerParts
trailer_parts es = record { mutation = mutation (inside 1 es) }

abbrev pub trailer_add : TrailerParts → Entry → TrailerParts
trailer_add t e = record { mutation = filled mutation_add t.mutation (span_at 1 e) }

abbrev pub status_parts : List Entry → StatusParts
status_parts es = record { code = status_code es }

abbrev pub status_add : StatusParts → Entry → StatusParts
status_add s e = record { code = unwrap_or (option_map (λ n. Some (low n)) (varint_at 1 e)) s.code }

abbrev pub immediate_parts : List Entry → ImmediateParts
immediate_parts es = record { status = status_parts (inside 1 es); headers = mutation (inside 2 es); body = bytes_of 3 es }

abbrev pub immediate_add : ImmediateParts → Entry → ImmediateParts
immediate_add i e = record { status = filled status_add i.status (span_at 1 e); headers = filled mutation_add i.headers (span_at 2 e); body = unwrap_or (span_at 3 e) i.body }

-- a member of which nothing was read
abbrev pub fresh_member : ℕ → MemberParts
fresh_member n = record { number = n; response = response_parts []; trailers = trailer_parts []; immediate = immediate_parts [] }

-- the member of this number from its occurrences
abbrev pub member_from : Kind → ℕ → List Entry → MemberParts
member_from no_kind n run = fresh_member n
member_from answers n run = record { number = n; response = response_parts (inside n run); trailers = trailer_parts []; immediate = immediate_parts [] }
member_from trails n run = record { number = n; response = response_parts []; trailers = trailer_parts (inside n run); immediate = immediate_parts [] }
member_from ends n run = record { number = n; response = response_parts []; trailers = trailer_parts []; immediate = immediate_parts (inside n run) }

abbrev pub member_run : ℕ → List Entry → MemberParts
member_run n run = member_from (kind_of n) n run

abbrev pub member_parts : List Entry → MemberParts
member_parts es = member_run (latest answer_member es).0 (latest answer_member es).1

-- the member as it was, or nothing of it where another was set
abbrev pub entered_member : MemberParts → ℕ → MemberParts
entered_member m n = if m.number == n then m else fresh_member n

abbrev pub grown_member : Kind → MemberParts → List Entry → MemberParts
grown_member no_kind m more = m
grown_member answers m more = record { number = m.number; response = fold response_add m.response more; trailers = m.trailers; immediate = m.immediate }
grown_member trails m more = record { number = m.number; response = m.response; trailers = fold trailer_add m.trailers more; immediate = m.immediate }
grown_member ends m more = record { number = m.number; response = m.response; trailers = m.trailers; immediate = fold immediate_add m.immediate more }

abbrev pub joined_member : Kind → MemberParts → ℕ → List Entry → MemberParts
joined_member no_kind m n more = m
joined_member answers m n more = grown_member answers (entered_member m n) more
joined_member trails m n more = grown_member trails (entered_member m n) more
joined_member ends m n more = grown_member ends (entered_member m n) more

abbrev pub taken_member : MemberParts → ℕ → Option (List ℕ) → MemberParts
taken_member m n None = m
taken_member m n (Some bytes) = joined_member (kind_of n) m n (entries bytes)

abbrev pub member_add : MemberParts → Entry → MemberParts
member_add m e = taken_member m e.number (bytes_in e.content)

abbrev pub finished_immediate : ℕ → Option ℕ → ImmediateParts → Result Member MsgFault
finished_immediate place None i = Err (BadNumber place)
finished_immediate place (Some code) i = Ok (members.Immediate (record { code = code; headers = i.headers; body = i.body }))

-- The place is that of the last immediate response. Without a member there has to be a timeout.
abbrev pub finished_member : ℕ → Bool → MemberParts → Result Member MsgFault
finished_member place timed m =
    if m.number == 1 then Ok (members.RequestHeaders m.response.common) else
    (if m.number == 2 then Ok (members.ResponseHeaders m.response.common) else
    (if m.number == 3 then Ok (members.RequestBody m.response.common) else
    (if m.number == 4 then Ok (members.ResponseBody m.response.common) else
    (if m.number == 5 then Ok (members.RequestTrailers m.trailers.mutation) else
    (if m.number == 6 then Ok (members.ResponseTrailers m.trailers.mutation) else
    (if m.number == 7 then finished_immediate place m.immediate.status.code m.immediate else
    (if timed then Ok members.Unset else Err NoMember)))))))

-- ---- answers

abbrev pub mode_parts : List Entry → ModeParts
mode_parts es = record { request_header = mode_of 1 es; response_header = mode_of 2 es; request_body = mode_of 3 es; response_body = mode_of 4 es; request_trailer = mode_of 5 es; response_trailer = mode_of 6 es }

abbrev pub mode_add : ℕ → Entry → ℤ → ℤ
mode_add n e old = unwrap_or (option_map int32 (varint_at n e)) old

abbrev pub modes_add : ModeParts → Entry → ModeParts
modes_add m e = record { request_header = mode_add 1 e m.request_header; response_header = mode_add 2 e m.response_header; request_body = mode_add 3 e m.request_body; response_body = mode_add 4 e m.response_body; request_trailer = mode_add 5 e m.request_trailer; response_trailer = mode_add 6 e m.response_trailer }

abbrev pub finished_modes : ModeParts → ModeNumbers
finished_modes m = record { numbers = m.request_header ∷ m.response_header ∷ m.request_body ∷ m.response_body ∷ m.request_trailer ∷ m.response_trailer ∷ [] }

abbrev pub duration_add : Span → Entry → Span
duration_add s e = record { seconds = unwrap_or (option_map int64 (varint_at 1 e)) s.seconds; nanos = unwrap_or (option_map int32 (varint_at 2 e)) s.nanos }

abbrev pub answer_parts : List Entry → AnswerParts
answer_parts es = record { member = member_parts es; modes = if_any (spans 9 es) (mode_parts (inside 9 es)); timeout = if_any (spans 10 es) (duration (inside 10 es)) }

abbrev pub answer_add : AnswerParts → Entry → AnswerParts
answer_add a e = record { member = member_add a.member e; modes = filled_if modes_add (mode_parts []) a.modes (span_at 9 e); timeout = filled_if duration_add (duration []) a.timeout (span_at 10 e) }

abbrev pub finished_answer : ℕ → AnswerParts → Result Answer MsgFault
finished_answer place a = with_member (option_map finished_modes a.modes) a.timeout (finished_member place (is_some a.timeout) a.member)

-- ---- asks

abbrev pub map_parts : List Entry → MapParts
map_parts es = record { fields = fields es }

abbrev pub map_add : MapParts → Entry → MapParts
map_add m e = record { fields = pushed m.fields (λ bytes. finished_field (filled header_add (header_parts []) (Some bytes))) (span_at 1 e) }

abbrev pub head_parts : List Entry → HeadParts
head_parts es = record { map = map_parts (inside 1 es); last = is_set (number_of 3 es) }

abbrev pub head_add : HeadParts → Entry → HeadParts
head_add h e = record { map = filled map_add h.map (span_at 1 e); last = unwrap_or (option_map is_set (varint_at 3 e)) h.last }

abbrev pub tail_parts : List Entry → TailParts
tail_parts es = record { map = map_parts (inside 1 es) }

abbrev pub tail_add : TailParts → Entry → TailParts
tail_add t e = record { map = filled map_add t.map (span_at 1 e) }

-- an ask of which nothing was read
abbrev pub fresh_ask : ℕ → AskParts
fresh_ask n = record { number = n; head = head_parts []; body = stream_parts []; tail = tail_parts [] }

-- the ask of this number from its occurrences
abbrev pub ask_from : Part → ℕ → List Entry → AskParts
ask_from no_part n run = fresh_ask n
ask_from heads n run = record { number = n; head = head_parts (inside n run); body = stream_parts []; tail = tail_parts [] }
ask_from bodies n run = record { number = n; head = head_parts []; body = stream_parts (inside n run); tail = tail_parts [] }
ask_from tails n run = record { number = n; head = head_parts []; body = stream_parts []; tail = tail_parts (inside n run) }

abbrev pub ask_run : ℕ → List Entry → AskParts
ask_run n run = ask_from (part_of n) n run

abbrev pub ask_parts : List Entry → AskParts
ask_parts es = ask_run (latest ask_member es).0 (latest ask_member es).1

-- the ask as it was, or nothing of it where another member was set
abbrev pub entered_ask : AskParts → ℕ → AskParts
entered_ask a n = if a.number == n then a else fresh_ask n

abbrev pub grown_ask : Part → AskParts → List Entry → AskParts
grown_ask no_part a more = a
grown_ask heads a more = record { number = a.number; head = fold head_add a.head more; body = a.body; tail = a.tail }
grown_ask bodies a more = record { number = a.number; head = a.head; body = fold stream_add a.body more; tail = a.tail }
grown_ask tails a more = record { number = a.number; head = a.head; body = a.body; tail = fold tail_add a.tail more }

abbrev pub joined_ask : Part → AskParts → ℕ → List Entry → AskParts
joined_ask no_part a n more = a
joined_ask heads a n more = grown_ask heads (entered_ask a n) more
joined_ask bodies a n more = grown_ask bodies (entered_ask a n) more
joined_ask tails a n more = grown_ask tails (entered_ask a n) more

abbrev pub taken_ask : AskParts → ℕ → Option (List ℕ) → AskParts
taken_ask a n None = a
taken_ask a n (Some bytes) = joined_ask (part_of n) a n (entries bytes)

abbrev pub ask_add : AskParts → Entry → AskParts
ask_add a e = taken_ask a e.number (bytes_in e.content)

abbrev pub finished_ask : AskParts → Result Ask MsgFault
finished_ask a =
    if a.number == 2 then Ok (asks.RequestHeaders a.head.map.fields a.head.last) else
    (if a.number == 3 then Ok (asks.ResponseHeaders a.head.map.fields a.head.last) else
    (if a.number == 4 then Ok (asks.RequestBody a.body.body a.body.last) else
    (if a.number == 5 then Ok (asks.ResponseBody a.body.body a.body.last) else
    (if a.number == 6 then Ok (asks.RequestTrailers a.tail.map.fields) else
    (if a.number == 7 then Ok (asks.ResponseTrailers a.tail.map.fields) else Err NoMember)))))
