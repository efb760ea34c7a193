-- The cut: the entry at which a fault, an immediate response or a loss decides an exchange.
use Rattle.std.specs.Prelude.{ℕ, Bool, true, false, ◌&&◌, ◌||◌, Option, Some, None, if◌then◌else◌, nat_le, option_map, is_some}
use Rattle.ext_msgs.specs.declared.answer.HeaderMutation.{HeaderMutation}
use Rattle.ext_msgs.specs.declared.answer.Common.{Common}
use Rattle.ext_msgs.specs.declared.answer.Immediate.{Immediate}
use Rattle.ext_msgs.specs.declared.answer.Member.{Member}
use Rattle.ext_msgs.specs.declared.answer.Member.TheVariants as member
use Rattle.ext_msgs.specs.declared.answer.Answer.{Answer}
use Rattle.ext_msgs.specs.declared.answer.Span.{Span}
use Rattle.ext_msgs.specs.declared.answer.BodyChange.TheVariants as change
use Rattle.header_mutation.specs.Mutated.{Outcome, Fields, Bad, Disallowed, items, first_bad}
use Rattle.http_model.specs.Reading.{status_of}
use Rattle.http_model.specs.declared.types.Direction.{Direction}
use Rattle.http_model.specs.declared.types.Direction.TheVariants.{Request, Response}
use Rattle.filter_model.specs.Config.{FilterConfig}
use Rattle.filter_model.specs.Course.{AskedPart, is_headers, is_body, is_trailers, is_spurious, outcome, is_over, head_kind}
use Rattle.filter_model.specs.Account.{ExchangeAccount, course, flow, from, to, is_out_in, is_given}
use Rattle.filter_model.specs.View.{ViewEntry, Bytes, End, Lost, Answered, TooLong, Closed, NoStream, Tick, Starved}
use Rattle.filter_model.specs.declared.calls.Side.{Side}
use Rattle.filter_model.specs.declared.calls.Side.TheVariants.{Client, Upstream}
use Rattle.filter_model.specs.declared.calls.Loss.{Loss}
use Rattle.filter_model.specs.declared.calls.Loss.TheVariants.{NoDial, Broken}

pub data Cut : Type 0 where
  Spurious : Cut
  Malformed : Cut
  Refused : Cut  -- a forbidden item with `disallow_is_error`
  Immediately : Immediate → Cut
  LongAnswer : Cut
  Failed : Cut  -- the stream was closed with an error
  Unopened : Cut  -- no stream could be opened
  Clean : Cut  -- the stream ended with grpc-status 0
  Late : Cut  -- a timer fired
  Over : Direction → Cut  -- a body is past the buffer limit
  Peer : ℕ → Cut  -- a side's fault or loss, with the status of its reply
  Gone : Cut  -- the client or memory is lost

-- Answers to a part

pub data AnswerKind : Type 0 where
  OfHeaders : AnswerKind
  OfBody : AnswerKind
  OfTrailers : AnswerKind

abbrev pub kind_of : AnswerKind → AskedPart → Bool
kind_of OfHeaders = is_headers
kind_of OfBody = is_body
kind_of OfTrailers = is_trailers

-- direction, part and value of an answer
pub record PartAnswer : Type 0 where
  pub direction : Direction
  pub kind : AnswerKind
  pub common : Common

abbrev pub of_trailers : HeaderMutation → Common
of_trailers m = record { replace = false; headers = m; body = change.Absent }

abbrev pub part_answer : Member → Option PartAnswer
part_answer (member.RequestHeaders a) = Some (record { direction = Request; kind = OfHeaders; common = a })
part_answer (member.ResponseHeaders a) = Some (record { direction = Response; kind = OfHeaders; common = a })
part_answer (member.RequestBody a) = Some (record { direction = Request; kind = OfBody; common = a })
part_answer (member.ResponseBody a) = Some (record { direction = Response; kind = OfBody; common = a })
part_answer (member.RequestTrailers m) = Some (record { direction = Request; kind = OfTrailers; common = of_trailers m })
part_answer (member.ResponseTrailers m) = Some (record { direction = Response; kind = OfTrailers; common = of_trailers m })
part_answer member.Unset = None
part_answer (member.Immediate i) = None

abbrev pub cut_by : Outcome → Option Cut
cut_by (Fields fields) = None
cut_by (Bad place) = Some Malformed
cut_by (Disallowed place) = Some Refused

-- spurious goes before malformed
abbrev pub part_cut : FilterConfig → ExchangeAccount → PartAnswer → Option Cut
part_cut c a x =
    if is_spurious (kind_of x.kind) x.common (course x.direction a) then Some Spurious
    else cut_by (outcome c.course x.direction (course x.direction a) x.common.headers)

abbrev pub immediate_cut : FilterConfig → Immediate → Cut
immediate_cut c i =
    if c.no_immediate then Spurious
    else if is_some (first_bad (items (head_kind Response) i.headers)) then Malformed
    else Immediately i

abbrev pub part_cut_of : FilterConfig → ExchangeAccount → Option PartAnswer → Option Cut
part_cut_of c a None = None
part_cut_of c a (Some p) = part_cut c a p

abbrev pub member_cut : FilterConfig → ExchangeAccount → Member → Option Cut
member_cut c a (member.Immediate i) = Some (immediate_cut c i)
member_cut c a member.Unset = Some Malformed
member_cut c a m = part_cut_of c a (part_answer m)

-- an answer with a timeout override is never a cut
abbrev pub answer_cut_at : FilterConfig → ExchangeAccount → Option Span → Member → Option Cut
answer_cut_at c a (Some t) m = None
answer_cut_at c a None m = member_cut c a m

unfoldable pub answer_cut : FilterConfig → ExchangeAccount → Option Answer → Option Cut
answer_cut c a None = Some Malformed
answer_cut c a (Some x) = answer_cut_at c a x.timeout x.member

-- Timers and closings

abbrev pub is_late : ExchangeAccount → Direction → Bool
is_late a d = is_out_in a d && nat_le (flow d a).deadline a.now

abbrev pub late_cut : ExchangeAccount → Option Cut
late_cut a = if is_late a Request || is_late a Response then Some Late else None

-- entries of the processor's stream, and of time
unfoldable pub processor_cut : FilterConfig → ExchangeAccount → ViewEntry → Option Cut
processor_cut c a (Answered x) = answer_cut c a x
processor_cut c a TooLong = Some LongAnswer
processor_cut c a (Closed true) = Some Clean
processor_cut c a (Closed false) = Some Failed
processor_cut c a NoStream = Some Unopened
processor_cut c a (Tick n) = late_cut a
processor_cut c a _ = None

unfoldable pub over_cut : FilterConfig → ExchangeAccount → Option Cut
over_cut c a =
    if is_over c.course a.request.course then Some (Over Request)
    else if is_over c.course a.response.course then Some (Over Response)
    else None

-- Sides

-- every fault of the upstream is a bad gateway: RFC 9110 section 15.6.3
abbrev pub fault_cut : ExchangeAccount → Direction → Option Cut
fault_cut a Request = option_map (λ f. Peer (status_of f)) a.request.course.original.fault
fault_cut a Response = option_map (λ f. Peer 502) a.response.course.original.fault

-- the side's own message is whole, and it was given the other one
abbrev pub is_whole_and_done : FilterConfig → ExchangeAccount → Side → Bool
is_whole_and_done c a s = (course (from s) a).original.whole && is_given c a (to s)

abbrev pub loss_cut : Side → Loss → Cut
loss_cut Client how = Gone
loss_cut Upstream NoDial = Peer 503
loss_cut Upstream Broken = Peer 502

-- entries of the two sides, and want of memory
unfoldable pub peer_cut : FilterConfig → ExchangeAccount → ViewEntry → Option Cut
peer_cut c a (Bytes s bytes) = fault_cut a (from s)
peer_cut c a (End s) = fault_cut a (from s)
peer_cut c a (Lost s how) = if is_whole_and_done c a s then None else Some (loss_cut s how)
peer_cut c a Starved = Some Gone
peer_cut c a _ = None

-- An `unfolding` line that names this opens the cuts, so that examples compute.
unfoldable pub cut_rules : Unit {0}
unfolding answer_cut processor_cut over_cut peer_cut
cut_rules = tt
