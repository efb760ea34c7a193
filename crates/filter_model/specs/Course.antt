-- One message on its way through the filter: what is asked of it, and what becomes of it.
use Rattle.std.specs.Prelude.{ℕ, ◌+◌, ◌-◌, min, Bool, true, false, not, ◌&&◌, ◌||◌, List, [], ◌∷◌, ◌++◌, length, take, drop, Option, Some, None, if◌then◌else◌, nat_lt, nat_le, codes, unwrap_or, option_map, is_some, is_none, flat_map, filter_map, sum_by, zip, find, option_to_list, bytes_eq}
use Rattle.std.specs.List.{list_any}
use Rattle.ext_msgs.specs.declared.lists.Field.{Field}
use Rattle.ext_msgs.specs.declared.answer.HeaderMutation.{HeaderMutation}
use Rattle.ext_msgs.specs.declared.answer.Common.{Common}
use Rattle.ext_msgs.specs.declared.answer.BodyChange.{BodyChange}
use Rattle.ext_msgs.specs.declared.answer.BodyChange.TheVariants.{Bytes, Clear, Streamed as StreamedBack}
use Rattle.ext_msgs.specs.declared.modes.BodyMode.{BodyMode}
use Rattle.ext_msgs.specs.declared.modes.BodyMode.TheVariants.{NoAsk, Streamed, Buffered, Partial}
use Rattle.ext_msgs.specs.declared.modes.PartModes.{PartModes}
use Rattle.header_mutation.specs.Mutated.{mutated, Outcome, Fields}
use Rattle.header_mutation.specs.declared.rules.PartKind.{PartKind}
use Rattle.header_mutation.specs.declared.rules.PartKind.TheVariants.{RequestHead, ResponseHead, Trailers as TrailerPart}
use Rattle.http_model.specs.Bytes.{is_empty, decimal_value, value_of, values_of}
use Rattle.http_model.specs.Heads.{is_bodiless}
use Rattle.http_model.specs.Reads.{Original}
use Rattle.http_model.specs.declared.types.Direction.{Direction}
use Rattle.http_model.specs.declared.types.Direction.TheVariants.{Request, Response}
use Rattle.http_model.specs.declared.types.Length.{Length}
use Rattle.http_model.specs.declared.types.Length.TheVariants.{NoBody, Known, Chunked, Close}
use Rattle.http_model.specs.declared.types.Framing.{Framing}
use Rattle.http_model.specs.declared.types.Framing.TheVariants.{NoField, Length as OfLength, Chunked as InChunks}
use Rattle.filter_model.specs.Config.{CourseConfig}

-- a part of a message as it is asked; the flag is end_of_stream
pub data AskedPart : Type 0 where
  Headers : List Field → Bool → AskedPart
  Body : List ℕ → Bool → AskedPart
  Trailers : List Field → AskedPart

-- a head as it goes out
pub record Outgoing : Type 0 where
  pub fields : List Field
  pub framing : Framing

pub record Course : Type 0 where
  pub original : Original
  pub modes : PartModes  -- as configured and overridden
  pub asks : List AskedPart  -- oldest first
  pub answers : List Common  -- the k-th belongs to the k-th ask
  pub sent : ℕ  -- how many of the asks were sent
  pub given : ℕ  -- how many body bytes were given to the other side
  pub released : Bool  -- the rest passes
  pub head : Option Outgoing  -- as it was once it could go

-- Asks and answers in pairs

abbrev pub is_headers : AskedPart → Bool
is_headers (Headers fields last) = true
is_headers _ = false

abbrev pub is_body : AskedPart → Bool
is_body (Body bytes last) = true
is_body _ = false

abbrev pub is_trailers : AskedPart → Bool
is_trailers (Trailers fields) = true
is_trailers _ = false

abbrev pub bytes_in : AskedPart → List ℕ
bytes_in (Body bytes last) = bytes
bytes_in _ = []

abbrev pub is_last_piece : AskedPart → Bool
is_last_piece (Body bytes last) = last
is_last_piece _ = false

abbrev pub pairs : Course → List (AskedPart × Common)
pairs w = zip w.asks w.answers

-- the asks that are out
abbrev pub out : Course → List AskedPart
out w = drop (length w.answers) w.asks

abbrev pub asked_bytes : List AskedPart → ℕ
asked_bytes asks = sum_by (λ p. length (bytes_in p)) asks

abbrev pub answered_bytes : List (AskedPart × Common) → ℕ
answered_bytes pairs = sum_by (λ (q : AskedPart × Common). length (bytes_in q.0)) pairs

-- the answer to the first ask of this kind
abbrev pub answer_to : (AskedPart → Bool) → Course → Option Common
answer_to kind w = option_map (λ (q : AskedPart × Common). q.1) (find (λ (q : AskedPart × Common). kind q.0) (pairs w))

-- a CONTINUE_AND_REPLACE came
abbrev pub is_stopped : Course → Bool
is_stopped w = list_any (λ a. a.replace) w.answers

-- The body mode that holds: none once the rest passes, and behind a CONTINUE_AND_REPLACE in the headers answer

abbrev pub replaces : Option Common → Bool
replaces None = false
replaces (Some a) = a.replace

abbrev pub mode_at : Bool → Option Common → BodyMode → BodyMode
mode_at released headers_answer configured = if released || replaces headers_answer then NoAsk else configured

abbrev pub mode : Course → BodyMode
mode w = mode_at w.released (answer_to is_headers w) w.modes.body

abbrev pub is_no_ask : BodyMode → Bool
is_no_ask NoAsk = true
is_no_ask _ = false

abbrev pub is_buffered : BodyMode → Bool
is_buffered Buffered = true
is_buffered _ = false

abbrev pub is_partial : BodyMode → Bool
is_partial Partial = true
is_partial _ = false

-- the headers ask is answered, or none is due
abbrev pub is_settled : Course → Bool
is_settled w = is_some w.original.head && (w.released || not w.modes.headers || is_some (answer_to is_headers w))

-- Which ask is due

-- the last byte was asked before the end was known
abbrev pub lacks_last : List AskedPart → Bool
lacks_last asks = list_any is_body asks && not (list_any is_last_piece asks)

-- STREAMED, of the bytes that no ask has yet: a piece of what is at hand, and an empty last one where the last is owed
abbrev pub next_streamed : ℕ → Original → List AskedPart → List ℕ → Option AskedPart
next_streamed piece o asks [] = if o.whole && is_empty o.trailers && lacks_last asks then Some (Body [] true) else None
next_streamed piece o asks (b ∷ rest) =
    Some (Body (take piece (b ∷ rest)) (o.whole && is_empty o.trailers && nat_le (length (b ∷ rest)) piece))

-- BUFFERED: all of the body at once
abbrev pub next_buffered : Original → Bool → Option AskedPart
next_buffered o asked = if o.whole && not asked then Some (Body o.body (is_empty o.trailers)) else None

-- BUFFERED_PARTIAL: all of the body at once, or the first bytes of a longer one
abbrev pub next_partial : ℕ → Original → Bool → Option AskedPart
next_partial limit o asked =
    if asked then None
    else if nat_lt limit (length o.body) then Some (Body (take limit o.body) false)
    else if o.whole then Some (Body o.body (is_empty o.trailers))
    else None

abbrev pub body_by_mode : BodyMode → Option AskedPart → Option AskedPart → Option AskedPart → Option AskedPart
body_by_mode NoAsk streamed buffered partial = None
body_by_mode Streamed streamed buffered partial = streamed
body_by_mode Buffered streamed buffered partial = buffered
body_by_mode Partial streamed buffered partial = partial

abbrev pub body_at : Bool → Bool → BodyMode → Option AskedPart → Option AskedPart → Option AskedPart → Option AskedPart
body_at bodiless stopped m streamed buffered partial =
    if bodiless || stopped then None else body_by_mode m streamed buffered partial

unfoldable pub next_body : CourseConfig → Course → Option AskedPart
next_body c w =
    body_at (is_bodiless w.original.length) (is_stopped w) (mode w)
    (next_streamed c.piece w.original w.asks (drop (asked_bytes w.asks) w.original.body))
    (next_buffered w.original (list_any is_body w.asks))
    (next_partial c.buffer_limit w.original (list_any is_body w.asks))

abbrev pub next_trailers : Course → Option AskedPart
next_trailers w =
    if w.modes.trailers && not w.released && not (is_stopped w) && w.original.whole && not (is_empty w.original.trailers)
    && not (list_any is_trailers w.asks)
    then Some (Trailers w.original.trailers) else None

abbrev pub or_else : Option AskedPart → Option AskedPart → Option AskedPart
or_else (Some p) other = Some p
or_else None other = other

-- headers, body, trailers; nothing before the head is read, and nothing more once the rest passes, behind a
-- CONTINUE_AND_REPLACE, or while the headers ask is out
abbrev pub next_at : Option (List Field) → Bool → Bool → Bool → Bool → Bool → Option AskedPart → Option AskedPart → Option AskedPart
next_at None bodiless done first headers_out stopped body trailers = None
next_at (Some head) bodiless done first headers_out stopped body trailers =
    if done || stopped then None
    else if first then Some (Headers head bodiless)
    else if headers_out then None
    else or_else body trailers

-- the ask that is due after those already made
unfoldable pub next : CourseConfig → Course → Option AskedPart
next c w =
    next_at w.original.head (is_bodiless w.original.length) w.released (w.modes.headers && is_empty w.asks)
    (list_any is_headers (out w)) (is_stopped w) (next_body c w) (next_trailers w)

-- What the message becomes

pub record Changed : Type 0 where
  pub head : Option Outgoing
  pub pieces : List (List ℕ)  -- the answered pieces of the body
  pub passing : List ℕ  -- the bytes behind them that pass
  pub trailers : Option (List Field)
  pub ended : Bool

abbrev pub nothing : Changed
nothing = record { head = None; pieces = []; passing = []; trailers = None; ended = false }

-- what takes the place of a piece, where something does
abbrev pub new_piece : BodyChange → Option (List ℕ)
new_piece (Bytes b) = Some b
new_piece (Clear true) = Some []
new_piece _ = None

-- a response to HEAD, of 204 or of 304 can have no body: RFC 9110 section 6.4.1
abbrev pub is_bare : Direction → Length → Bool
is_bare Request n = false
is_bare Response NoBody = true
is_bare Response _ = false

abbrev pub replacement_by : Option Common → Option (List ℕ)
replacement_by None = None
replacement_by (Some a) = if a.replace then new_piece a.body else None

abbrev pub replacement_at : Bool → Option Common → Option (List ℕ)
replacement_at bare headers_answer = if bare then None else replacement_by headers_answer

-- the body that takes the place of the whole one
abbrev pub replacement : Direction → Course → Option (List ℕ)
replacement d w = replacement_at (is_bare d w.original.length) (answer_to is_headers w)

abbrev pub answered_piece : AskedPart × Common → Option (List ℕ)
answered_piece q = if is_body q.0 then Some (unwrap_or (new_piece q.1.body) (bytes_in q.0)) else None

-- the answered pieces, each as its answer changes it
abbrev pub answered_pieces : Course → List (List ℕ)
answered_pieces w = filter_map answered_piece (pairs w)

abbrev pub fields_or : List Field → Outcome → List Field
fields_or old (Fields new) = new
fields_or old _ = old

abbrev pub head_kind : Direction → PartKind
head_kind Request = RequestHead
head_kind Response = ResponseHead

-- the fields under the header mutation of an answer
abbrev pub under : CourseConfig → PartKind → List Field → Option Common → List Field
under c kind fields None = fields
under c kind fields (Some a) = fields_or fields (mutated c.rules kind fields a.headers)

abbrev pub head_after_headers : CourseConfig → Direction → Course → List Field → List Field
head_after_headers c d w head = under c (head_kind d) head (answer_to is_headers w)

-- under the headers answer, and in BUFFERED under the body answer too
abbrev pub changed_head : CourseConfig → Direction → Course → List Field → List Field
changed_head c d w head =
    let first : List Field = head_after_headers c d w head in
    if is_buffered w.modes.body then under c (head_kind d) first (answer_to is_body w) else first

abbrev pub head_may_go : Course → Bool
head_may_go w = w.released || (is_settled w
    && (not (is_buffered (mode w)) || is_bodiless w.original.length || is_some (answer_to is_body w)))

-- bytes that no ask covers pass: with no body mode, behind a CONTINUE_AND_REPLACE, and behind a partial body, each
-- while no piece is out
abbrev pub passing_at : Bool → Bool → Bool → BodyMode → Bool → Bool
passing_at released body_out stopped m asked = released || (not body_out && (stopped || is_no_ask m || (is_partial m && asked)))

abbrev pub is_passing : Course → Bool
is_passing w = passing_at w.released (list_any is_body (out w)) (is_stopped w) (mode w) (list_any is_body w.asks)

abbrev pub body_done_at : Bool → Bool → Bool → Option AskedPart → Bool
body_done_at whole released body_out body = whole && (released || (not body_out && is_none body))

-- the original is whole, and no piece of it is asked or still to be asked
abbrev pub is_body_done : CourseConfig → Course → Bool
is_body_done c w = body_done_at w.original.whole w.released (list_any is_body (out w)) (next_body c w)

abbrev pub trailers_by : {A : Type 0} → Option Common → (Common → A) → Bool → A → Option A
trailers_by (Some a) change passes original = Some (change a)
trailers_by None change passes original = if passes then Some original else None

abbrev pub trailers_at : {A : Type 0} → Bool → Bool → Option Common → (Common → A) → Bool → A → Option A
trailers_at empty done answer change passes original =
    if empty || not done then None else trailers_by answer change passes original

-- behind all of the body: under their answer, or as they were where none is due
abbrev pub changed_trailers : CourseConfig → Course → Option (List Field)
changed_trailers c w =
    trailers_at (is_empty w.original.trailers) (is_body_done c w) (answer_to is_trailers w)
    (λ a. under c TrailerPart w.original.trailers (Some a))
    (w.released || (is_empty (out w) && is_none (next_trailers w))) w.original.trailers

-- The framing is chosen with the head, once: RFC 9112 section 6

-- a number that 64 bits don't hold counts as the greatest that they do; no reader takes a length from 2^63 on
abbrev pub length_in : List (List ℕ) → Framing
length_in [] = NoField
length_in (value ∷ values) = OfLength (min (decimal_value value) 18_446_744_073_709_551_615)

abbrev pub own_length : List Field → Framing
own_length head = length_in (values_of (codes "content-length") head)

abbrev pub has_status : List ℕ → List Field → Bool
has_status code head = bytes_eq (value_of (codes ":status") head) code

-- an answer fixed the body: it was asked whole and has no trailers
abbrev pub is_fixed : Course → Bool
is_fixed w = is_buffered w.modes.body && is_some (answer_to is_body w) && is_empty w.original.trailers

-- nothing can change the body any more: the length stays
abbrev pub framing_by : Length → Bool → Framing
framing_by NoBody unchanged = NoField
framing_by (Known n) unchanged = if unchanged then OfLength n else InChunks
framing_by Chunked unchanged = InChunks
framing_by Close unchanged = InChunks

-- of a message that isn't replaced
abbrev pub kept_framing : Course → Framing
kept_framing w =
    if is_fixed w then OfLength (length (flat_map (λ p. p) (answered_pieces w)))
    else framing_by w.original.length (is_no_ask (mode w) || is_bodiless w.original.length)

abbrev pub framing_at : Bool → List Field → Option (List ℕ) → Framing → Framing
framing_at true head replaced kept = if has_status (codes "204") head then NoField else own_length head
framing_at false head (Some body) kept = OfLength (length body)
framing_at false head None kept = kept

abbrev pub framing_of : Direction → Course → List Field → Framing
framing_of d w head = framing_at (is_bare d w.original.length) head (replacement d w) (kept_framing w)

abbrev pub outgoing : CourseConfig → Direction → Course → List Field → Outgoing
outgoing c d w head = record { fields = changed_head c d w head; framing = framing_of d w head }

-- the head is chosen at the first moment at which it can go
unfoldable pub committed : CourseConfig → Direction → Course → Course
committed c d w = record w {
  head = if is_none w.head && head_may_go w then option_map (outgoing c d w) w.original.head else w.head;
}

-- What the message has become

abbrev pub replaced_by : Outgoing → List ℕ → Changed
replaced_by head body = record { head = Some head; pieces = body ∷ []; passing = []; trailers = None; ended = true }

abbrev pub kept : CourseConfig → Course → Outgoing → Changed
kept c w head = record {
  head = Some head;
  pieces = answered_pieces w;
  passing = if is_passing w then drop (answered_bytes (pairs w)) w.original.body else [];
  trailers = changed_trailers c w;
  ended = is_body_done c w && (is_empty w.original.trailers || is_some (changed_trailers c w));
}

abbrev pub changed_at : CourseConfig → Course → Option Outgoing → Option (List ℕ) → Changed
changed_at c w None replaced = nothing
changed_at c w (Some head) (Some body) = replaced_by head body
changed_at c w (Some head) None = kept c w head

unfoldable pub changed : CourseConfig → Direction → Course → Changed
changed c d w = changed_at c w w.head (replacement d w)

abbrev pub body_of : Changed → List ℕ
body_of m = flat_map (λ p. p) m.pieces ++ m.passing

-- When an ask may be made

-- the body bytes that wait to be given
unfoldable pub queue : CourseConfig → Direction → Course → ℕ
queue c d w = length (body_of (changed c d w)) - w.given

-- how many asks of a direction may be out or not yet sent
abbrev pub ask_limit : ℕ
ask_limit = 4

unfoldable pub is_permitted : CourseConfig → Direction → Course → Bool
is_permitted c d w = nat_lt (length w.asks - min (length w.answers) w.sent) ask_limit && nat_le (queue c d w) c.mark

-- the ask that is due, where it is permitted
abbrev pub due : CourseConfig → Direction → Course → List AskedPart
due c d w = if is_permitted c d w then option_to_list (next c w) else []

unfoldable pub one_asked : CourseConfig → Direction → Course → Course
one_asked c d w = record w { asks = w.asks ++ due c d w }

-- asks are made as long as one is due and permitted; each leaves one more out or not sent, so four turns do
unfoldable pub asked : CourseConfig → Direction → Course → Course
asked c d w = one_asked c d (one_asked c d (one_asked c d (one_asked c d w)))

-- What an answer is at its place

abbrev pub is_streamed_back : BodyChange → Bool
is_streamed_back (StreamedBack bytes last) = true
is_streamed_back _ = false

-- the oldest ask out isn't of this part, or there is none, or it answers in a form for another mode
abbrev pub is_spurious_at : (AskedPart → Bool) → Bool → List AskedPart → Bool
is_spurious_at kind streamed_back [] = true
is_spurious_at kind streamed_back (p ∷ more) = not (kind p) || streamed_back

abbrev pub is_spurious : (AskedPart → Bool) → Common → Course → Bool
is_spurious kind a w = is_spurious_at kind (is_streamed_back a.body) (out w)

-- the mutation is judged on what its part has become; that of a body answer in every mode, though only BUFFERED applies it
abbrev pub outcome_at : CourseConfig → Direction → Course → HeaderMutation → AskedPart → Outcome
outcome_at c d w m (Headers head last) = mutated c.rules (head_kind d) head m
outcome_at c d w m (Body bytes last) = mutated c.rules (head_kind d) (head_after_headers c d w (unwrap_or w.original.head [])) m
outcome_at c d w m (Trailers fields) = mutated c.rules TrailerPart fields m

abbrev pub outcome_of : CourseConfig → Direction → Course → HeaderMutation → List AskedPart → Outcome
outcome_of c d w m [] = Fields []
outcome_of c d w m (p ∷ more) = outcome_at c d w m p

abbrev pub outcome : CourseConfig → Direction → Course → HeaderMutation → Outcome
outcome c d w m = outcome_of c d w m (out w)

-- BUFFERED is settled, and more body bytes than the limit have arrived
abbrev pub is_over : CourseConfig → Course → Bool
is_over c w = is_settled w && is_buffered (mode w) && nat_lt c.buffer_limit (length w.original.body)

-- Room

-- the body bytes that have arrived and are in no ask, weren't given and weren't dropped; what is released is in no ask
abbrev pub unasked : Direction → Course → ℕ
unasked d w =
    let in_asks : ℕ = if w.released then answered_bytes (pairs w) else asked_bytes w.asks in
    let passed : ℕ = w.given - length (flat_map (λ p. p) (answered_pieces w)) in
    if is_some (replacement d w) then 0 else length w.original.body - in_asks - passed

-- while the body is read: the limit and one byte where it is collected, else the mark
unfoldable pub body_room : CourseConfig → Direction → Course → ℕ
body_room c d w =
    let collects : Bool = is_settled w && (is_buffered (mode w) || (is_partial (mode w) && not (list_any is_body w.asks))) in
    min c.piece ((if collects then c.buffer_limit + 1 else c.mark) - unasked d w)

-- An `unfolding` line that names this opens a course, so that examples compute.
unfoldable pub course_rules : Unit {0}
unfolding next_body next changed committed queue is_permitted one_asked asked body_room
course_rules = tt
