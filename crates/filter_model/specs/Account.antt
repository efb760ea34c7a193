-- What a view comes to: both directions, what was asked and given, the clock, and how the exchange ends.
use Rattle.std.specs.Prelude.{ℕ, suc, max, Bool, true, false, not, ◌&&◌, ◌||◌, List, [], ◌++◌, length, drop, Option, Some, None, if◌then◌else◌, nat_le, codes, unwrap_or, option_map, is_some, slice_get, bytes_eq}
use Rattle.ext_msgs.specs.declared.lists.Field.{Field}
use Rattle.ext_msgs.specs.declared.ask.Ask.{Ask}
use Rattle.ext_msgs.specs.declared.ask.Ask.TheVariants as ask
use Rattle.ext_msgs.specs.declared.modes.PartModes.{PartModes}
use Rattle.http_model.specs.Bytes.{is_empty, value_of}
use Rattle.http_model.specs.Reads.{unread, reads}
use Rattle.http_model.specs.Wire.{head_bytes, interim}
use Rattle.http_model.specs.declared.types.Direction.{Direction}
use Rattle.http_model.specs.declared.types.Direction.TheVariants.{Request, Response}
use Rattle.filter_model.specs.Config.{FilterConfig}
use Rattle.filter_model.specs.Course.{Course, Outgoing, Changed, out, changed, body_of, committed}
use Rattle.filter_model.specs.Outgoing.{carried, is_all}
use Rattle.filter_model.specs.View.{ViewEntry, Bytes, End, Lost, Answered, TooLong, Closed, NoStream, Tick, Starved, Sent, Given}
use Rattle.filter_model.specs.declared.calls.Side.{Side}
use Rattle.filter_model.specs.declared.calls.Side.TheVariants.{Client, Upstream}

-- one direction of an exchange
pub record Flow : Type 0 where
  pub brought : List ℕ  -- all bytes of the side from which it comes
  pub ended : Bool  -- that side ended
  pub lost : Bool  -- or was lost
  pub course : Course
  pub given : List ℕ  -- all bytes given to the side to which it goes
  pub deadline : ℕ  -- of its timer, where an ask is out
  pub extended : Bool  -- the oldest ask out had its timeout override

-- what ended an exchange
pub data Fate : Type 0 where
  Live : Fate
  Left : Fate  -- the client left before its first byte
  Replied : List ℕ → Fate  -- by a reply of the proxy's own
  Aborted : Fate

pub record ExchangeAccount : Type 0 where
  pub request : Flow
  pub response : Flow
  pub made : List Ask  -- of both directions, in the order in which they were made
  pub sent : ℕ  -- how many of them were sent
  pub now : ℕ  -- the greatest tick
  pub fate : Fate
  pub unopened : Bool  -- no stream could be opened
  pub closed : Option Bool  -- the stream was closed, true where cleanly
  pub ending : Option Bool  -- the stream is to be finished (true) or reset

abbrev pub fresh_course : PartModes → Course
fresh_course modes = record {
  original = unread None;
  modes = modes;
  asks = [];
  answers = [];
  sent = 0;
  given = 0;
  released = false;
  head = None;
}

abbrev pub fresh : PartModes → Flow
fresh modes = record {
  brought = [];
  ended = false;
  lost = false;
  course = fresh_course modes;
  given = [];
  deadline = 0;
  extended = false;
}

abbrev pub start : FilterConfig → ExchangeAccount
start c = record {
  request = fresh c.request;
  response = fresh c.response;
  made = [];
  sent = 0;
  now = 0;
  fate = Live;
  unopened = false;
  closed = None;
  ending = None;
}

-- Directions

abbrev pub flow : Direction → ExchangeAccount → Flow
flow Request a = a.request
flow Response a = a.response

abbrev pub course : Direction → ExchangeAccount → Course
course d a = (flow d a).course

abbrev pub choose : {A : Type 0} → Direction → A → A → A
choose Request x y = x
choose Response x y = y

-- Every change writes the record outermost and chooses within its fields, so that the other fields compute.
abbrev pub put : Direction → Flow → ExchangeAccount → ExchangeAccount
put d f a = record a { request = choose d f a.request; response = choose d a.response f }

abbrev pub with_course : Course → Flow → Flow
with_course w f = record f { course = w }

abbrev pub from : Side → Direction
from Client = Request
from Upstream = Response

abbrev pub to : Side → Direction
to Client = Response
to Upstream = Request

abbrev pub is_head_request : Option (List Field) → Bool
is_head_request None = false
is_head_request (Some head) = bytes_eq (value_of (codes ":method") head) (codes "HEAD")

abbrev pub is_to_head : ExchangeAccount → Bool
is_to_head a = is_head_request a.request.course.original.head

abbrev pub is_released : ExchangeAccount → Bool
is_released a = a.request.course.released

abbrev pub is_out_in : ExchangeAccount → Direction → Bool
is_out_in a d = not (is_empty (out (course d a)))

-- What an entry brings, whatever it leads to

-- the original is what the reader makes of all bytes so far
unfoldable pub brought : Direction → List ℕ → Bool → ExchangeAccount → ExchangeAccount
brought d bytes ended a =
    let f : Flow = flow d a in
    let all : List ℕ = f.brought ++ bytes in
    let over : Bool = f.ended || ended in
    put d (record f { brought = all; ended = over; course = record f.course { original = reads d (is_to_head a) all over } }) a

abbrev pub direction_of : Ask → Direction
direction_of (ask.RequestHeaders fields last) = Request
direction_of (ask.RequestBody bytes last) = Request
direction_of (ask.RequestTrailers fields) = Request
direction_of (ask.ResponseHeaders fields last) = Response
direction_of (ask.ResponseBody bytes last) = Response
direction_of (ask.ResponseTrailers fields) = Response

-- the direction of the oldest ask that wasn't sent
abbrev pub unsent : ExchangeAccount → Option Direction
unsent a = option_map direction_of (slice_get a.made a.sent)

abbrev pub is_in : Direction → Option Direction → Bool
is_in Request (Some Request) = true
is_in Response (Some Response) = true
is_in _ _ = false

abbrev pub sent_if : Bool → Flow → Flow
sent_if counts f = record f { course = record f.course { sent = if counts then suc f.course.sent else f.course.sent } }

-- the k-th `Sent` belongs to the k-th ask of both directions
abbrev pub one_sent : ExchangeAccount → ExchangeAccount
one_sent a = record a {
  request = sent_if (is_in Request (unsent a)) a.request;
  response = sent_if (is_in Response (unsent a)) a.response;
  sent = if is_some (unsent a) then suc a.sent else a.sent;
}

unfoldable pub gathered : ViewEntry → ExchangeAccount → ExchangeAccount
gathered (Bytes s bytes) a = brought (from s) bytes false a
gathered (End s) a = brought (from s) [] true a
gathered (Lost s how) a = put (from s) (record (flow (from s) a) { lost = true }) a
gathered (Given s bytes) a = put (to s) (record (flow (to s) a) { given = (flow (to s) a).given ++ bytes }) a
gathered (Tick n) a = record a { now = max a.now n }
gathered Sent a = one_sent a
gathered NoStream a = record a { unopened = true }
gathered (Closed clean) a = record a { closed = Some (unwrap_or a.closed clean) }
gathered (Answered x) a = a
gathered TooLong a = a
gathered Starved a = a

-- What was given

-- before the response the client is given the interim response, where one is owed
abbrev pub front : Direction → ExchangeAccount → List ℕ
front Request a = []
front Response a = interim a.request.course.original.expects

abbrev pub behind_head : Direction → Outgoing → List ℕ → List ℕ → List ℕ
behind_head d head front given = drop (length (front ++ head_bytes d head.fields head.framing)) given

abbrev pub given_count : Direction → Option Outgoing → List ℕ → List ℕ → ℕ
given_count d None front given = 0
given_count d (Some head) front given = carried head.framing (behind_head d head front given)

abbrev pub counted_course : Direction → List ℕ → List ℕ → Course → Course
counted_course d front given w = record w { given = given_count d w.head front given }

abbrev pub settled_flow : FilterConfig → Direction → List ℕ → Flow → Flow
settled_flow c d front f = with_course (counted_course d front f.given (committed c.course d f.course)) f

-- each direction chooses its head once it can go, and counts the body bytes given behind it
unfoldable pub settled : FilterConfig → ExchangeAccount → ExchangeAccount
settled c a = record a {
  request = settled_flow c Request (front Request a) a.request;
  response = settled_flow c Response (front Response a) a.response;
}

-- the message is whole, and all of it was given

abbrev pub is_all_given : Direction → Outgoing → Changed → List ℕ → List ℕ → Bool
is_all_given d head m front given =
    m.ended && nat_le (length (front ++ head_bytes d head.fields head.framing)) (length given)
    && is_all head.framing (unwrap_or m.trailers []) (length (body_of m)) (behind_head d head front given)

abbrev pub is_given_at : Direction → Option Outgoing → Changed → List ℕ → List ℕ → Bool
is_given_at d None m front given = false
is_given_at d (Some head) m front given = is_all_given d head m front given

unfoldable pub is_given : FilterConfig → ExchangeAccount → Direction → Bool
is_given c a d = is_given_at d (course d a).head (changed c.course d (course d a)) (front d a) (flow d a).given

unfoldable pub is_finished : FilterConfig → ExchangeAccount → Bool
is_finished c a = is_given c a Request && is_given c a Response

-- An `unfolding` line that names this opens what an entry brings, so that examples compute.
unfoldable pub account_rules : Unit {0}
unfolding brought gathered settled is_given is_finished
account_rules = tt
