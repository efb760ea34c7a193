-- What an answer does that is no cut: it joins its direction's answers, with its overrides; and the asks that follow.
use Rattle.std.specs.Prelude.{ℕ, ◌+◌, ◌*◌, ◌/◌, Bool, true, false, not, ◌&&◌, ◌||◌, List, [], ◌∷◌, ◌++◌, length, drop, Option, Some, None, if◌then◌else◌, nat_le, map, unwrap_or, is_some, slice_get, ℤ, pos, negsuc, ◌+ℤ◌, ◌*ℤ◌}
use Rattle.ext_msgs.specs.declared.answer.Span.{Span}
use Rattle.ext_msgs.specs.declared.answer.ModeNumbers.{ModeNumbers}
use Rattle.ext_msgs.specs.declared.answer.Answer.{Answer}
use Rattle.ext_msgs.specs.declared.ask.Ask.{Ask}
use Rattle.ext_msgs.specs.declared.ask.Ask.TheVariants as ask
use Rattle.ext_msgs.specs.declared.modes.BodyMode.{BodyMode}
use Rattle.ext_msgs.specs.declared.modes.BodyMode.TheVariants.{NoAsk, Streamed, Buffered, Partial}
use Rattle.ext_msgs.specs.declared.modes.PartModes.{PartModes}
use Rattle.http_model.specs.declared.types.Direction.{Direction}
use Rattle.http_model.specs.declared.types.Direction.TheVariants.{Request, Response}
use Rattle.filter_model.specs.Config.{FilterConfig}
use Rattle.filter_model.specs.Course.{AskedPart, Headers, Body, Trailers, Course, asked}
use Rattle.filter_model.specs.Account.{ExchangeAccount, Flow, flow, put, is_out_in}
use Rattle.filter_model.specs.Cut.{PartAnswer, AnswerKind, OfHeaders, OfBody, OfTrailers, part_answer}
use Rattle.filter_model.specs.View.{ViewEntry, Answered}

-- Timeout overrides

-- in whole milliseconds, where the duration is at least 1 ms and at most the maximum
abbrev pub valid_ms : ℕ → ℤ → Option ℕ
valid_ms max_ms (pos nanos) =
    if nat_le 1_000_000 nanos && nat_le nanos (max_ms * 1_000_000) then Some (nanos / 1_000_000) else None
valid_ms max_ms (negsuc n) = None

abbrev pub override_ms : FilterConfig → Span → Option ℕ
override_ms c t = valid_ms c.max_timeout_ms (t.seconds *ℤ pos 1_000_000_000 +ℤ t.nanos)

-- once for the oldest ask out; the timer then starts at the override's value
abbrev pub extended_if : Bool → ℕ → Option ℕ → Flow → Flow
extended_if goes_here now ms f =
    let counts : Bool = goes_here && not f.extended && is_some ms in
    record f { deadline = if counts then now + unwrap_or ms 0 else f.deadline; extended = counts || f.extended }

-- to the request direction where an ask is out there, else to the response direction where one is
abbrev pub extended_by : FilterConfig → Span → ExchangeAccount → ExchangeAccount
extended_by c t a = record a {
  request = extended_if (is_out_in a Request) a.now (override_ms c t) a.request;
  response = extended_if (not (is_out_in a Request) && is_out_in a Response) a.now (override_ms c t) a.response;
}

-- Mode overrides

abbrev pub choice : {A : Type 0} → List A → ℤ → Option A
choice options (pos n) = slice_get options n
choice options (negsuc n) = None

-- DEFAULT, SEND, SKIP
abbrev pub header_modes : List Bool
header_modes = true ∷ true ∷ false ∷ []

abbrev pub trailer_modes : List Bool
trailer_modes = false ∷ true ∷ false ∷ []

-- NONE, STREAMED, BUFFERED, BUFFERED_PARTIAL
abbrev pub body_modes : List BodyMode
body_modes = NoAsk ∷ Streamed ∷ Buffered ∷ Partial ∷ []

abbrev pub all_three : Option Bool → Option BodyMode → Option Bool → Option PartModes
all_three (Some h) (Some b) (Some t) = Some (record { headers = h; body = b; trailers = t })
all_three _ _ _ = None

abbrev pub modes_of : ℤ → ℤ → ℤ → Option PartModes
modes_of h b t = all_three (choice header_modes h) (choice body_modes b) (choice trailer_modes t)

abbrev pub both : Option PartModes → Option PartModes → Option (PartModes × PartModes)
both (Some m) (Some m') = Some (m, m')
both _ _ = None

-- the modes of request and response, where each number is known, in the order of the fields of ProcessingMode
abbrev pub both_modes : List ℤ → Option (PartModes × PartModes)
both_modes (h ∷ h' ∷ b ∷ b' ∷ t ∷ t' ∷ []) = both (modes_of h b t) (modes_of h' b' t')
both_modes _ = None

abbrev pub is_of_headers : AnswerKind → Bool
is_of_headers OfHeaders = true
is_of_headers OfBody = false
is_of_headers OfTrailers = false

-- the modes that an override leaves, where it counts
abbrev pub override_of : FilterConfig → AnswerKind → Option ModeNumbers → Option (PartModes × PartModes)
override_of c kind None = None
override_of c kind (Some n) = if c.allow_override && is_of_headers kind then both_modes n.numbers else None

-- body and trailer modes anew, the header mode as it was
abbrev pub behind_headers : PartModes → PartModes → PartModes
behind_headers old new = record { headers = old.headers; body = new.body; trailers = new.trailers }

-- a request headers answer sets the request's modes behind its headers, and all of the response's
abbrev pub request_modes : Direction → Option (PartModes × PartModes) → PartModes → PartModes
request_modes Request (Some m) old = behind_headers old m.0
request_modes _ _ old = old

abbrev pub response_modes : Direction → Option (PartModes × PartModes) → PartModes → PartModes
response_modes Request (Some m) old = m.1
response_modes Response (Some m) old = behind_headers old m.1
response_modes _ None old = old

abbrev pub with_modes : PartModes → Flow → Flow
with_modes m f = record f { course = record f.course { modes = m } }

abbrev pub overridden : Direction → Option (PartModes × PartModes) → ExchangeAccount → ExchangeAccount
overridden d m a = record a {
  request = with_modes (request_modes d m a.request.course.modes) a.request;
  response = with_modes (response_modes d m a.response.course.modes) a.response;
}

-- Answers

-- an answer joins its direction's answers, and starts the timer anew for the asks that it leaves out
abbrev pub joined : FilterConfig → PartAnswer → ExchangeAccount → ExchangeAccount
joined c x a =
    let f : Flow = flow x.direction a in
    put x.direction (record f {
      course = record f.course { answers = f.course.answers ++ x.common ∷ [] };
      deadline = a.now + c.timeout_ms;
      extended = false;
    }) a

-- with the modes that come with it
abbrev pub part_answered : FilterConfig → Option ModeNumbers → ExchangeAccount → Option PartAnswer → ExchangeAccount
part_answered c modes a None = a
part_answered c modes a (Some p) = overridden p.direction (override_of c p.kind modes) (joined c p a)

-- with a timeout override its other fields are ignored
abbrev pub answered_by : FilterConfig → Answer → ExchangeAccount → Option Span → ExchangeAccount
answered_by c x a (Some t) = extended_by c t a
answered_by c x a None = part_answered c x.modes a (part_answer x.member)

unfoldable pub answered : FilterConfig → ViewEntry → ExchangeAccount → ExchangeAccount
answered c (Answered (Some x)) a = answered_by c x a x.timeout
answered c _ a = a

-- Asks

abbrev pub ask_of : Direction → AskedPart → Ask
ask_of Request (Headers fields last) = ask.RequestHeaders fields last
ask_of Request (Body bytes last) = ask.RequestBody bytes last
ask_of Request (Trailers fields) = ask.RequestTrailers fields
ask_of Response (Headers fields last) = ask.ResponseHeaders fields last
ask_of Response (Body bytes last) = ask.ResponseBody bytes last
ask_of Response (Trailers fields) = ask.ResponseTrailers fields

-- the asks that are due and permitted are made; where none was out, the first starts the timer
unfoldable pub asked_in : FilterConfig → Direction → ExchangeAccount → ExchangeAccount
asked_in c d a =
    let f : Flow = flow d a in
    let w : Course = asked c.course d f.course in
    record (put d (record f { course = w; deadline = if is_out_in a d then f.deadline else a.now + c.timeout_ms }) a) {
      made = a.made ++ map (ask_of d) (drop (length f.course.asks) w.asks);
    }

-- An `unfolding` line that names this opens answers and asks, so that examples compute.
unfoldable pub answer_rules : Unit {0}
unfolding answered asked_in
answer_rules = tt
