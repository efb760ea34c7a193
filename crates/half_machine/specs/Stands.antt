-- What a half stands for: each of its fields is what the definitions say of its past.
use Rattle.std.specs.Prelude.{ℕ, ◌+◌, ◌-◌, ◌*◌, ◌≡◌, ◌≤◌, min, Bool, true, false, not, List, [], ◌∷◌, ◌++◌, length, take, drop, map, filter, flat_map, Some, None, is_some, option_map, if◌then◌else◌, Option}
use Rattle.std.specs.List.{list_any}
use Rattle.ext_msgs.specs.declared.lists.Field.{Field}
use Rattle.ext_msgs.specs.declared.ask.Ask.{Ask}
use Rattle.ext_msgs.specs.declared.modes.BodyMode.{BodyMode}
use Rattle.ext_msgs.specs.declared.modes.BodyMode.TheVariants.{Streamed}
use Rattle.header_mutation.specs.declared.rules.PartKind.TheVariants.{Trailers as TrailerPart}
use Rattle.header_mutation.specs.declared.rules.Rules.{Rules}
use Rattle.header_mutation.specs.declared.setup.HalfSetup.{HalfSetup}
use Rattle.http_model.specs.Bytes.{is_empty}
use Rattle.http_model.specs.Heads.{is_bodiless}
use Rattle.http_model.specs.Reads.{Original}
use Rattle.http_model.specs.declared.types.Direction.{Direction}
use Rattle.http_model.specs.declared.types.Direction.TheVariants.{Request, Response}
use Rattle.http_model.specs.declared.types.Length.{Length}
use Rattle.http_model.specs.declared.types.Framing.{Framing}
use Rattle.http_model.specs.declared.types.Framing.TheVariants.{NoField}
use Rattle.filter_model.specs.Answers.{ask_of}
use Rattle.filter_model.specs.Config.{CourseConfig}
use Rattle.filter_model.specs.Course.{Course, AskedPart, Headers, Body, Trailers, Outgoing, changed_at, changed_head, body_of, out, pairs, bytes_in, is_headers, is_body, is_trailers, is_last_piece, asked_bytes, answered_bytes, answered_pieces, answer_to, is_passing, is_stopped, replacement, replaces, under, unasked, framing_at}
use Rattle.filter_model.specs.Half.{Past, Progress, progress}
use Rattle.filter_model.specs.Sound.{Sound}
use Rattle.body_hold.specs.Held.{Held}
use Rattle.half_machine.specs.BodyAsks.{BodyAsks}
use Rattle.half_machine.specs.Marks.{mark_of}
use Rattle.half_machine.specs.Room.{OfRoom, most_back}
use Rattle.half_machine.specs.Pieces.{OfPieces, pieces_of}
use Rattle.half_machine.specs.declared.facts.Arrived.{Arrived}
use Rattle.half_machine.specs.declared.facts.Ruled.{Ruled}
use Rattle.half_machine.specs.declared.facts.Asked.{Asked}
use Rattle.half_machine.specs.declared.facts.Counts.{Counts}
use Rattle.half_machine.specs.declared.facts.Gone.{Gone}
use Rattle.half_machine.specs.declared.half.Half.{Half}

-- the framing that a head states, of a response that can have no body
abbrev pub own_framing : List Field → Framing
own_framing head = framing_at true head None NoField

pub record OfOriginal (x : Arrived) (o : Original) : Type 0 where
  pub head : x.head ≡ is_some o.head
  pub framed : x.framed ≡ o.length
  pub own : (h : List Field) → o.head ≡ Some h → x.own ≡ own_framing h
  pub whole : x.whole ≡ o.whole
  pub trailers : x.trailers ≡ not (is_empty o.trailers)
  pub bytes : x.bytes ≡ min (length o.body) 4_294_967_295
  pub bare : o.whole ≡ false → o.trailers ≡ []
  pub unread : o.head ≡ None → (o.whole ≡ false) × (o.body ≡ [])

pub record OfAnswers (x : Ruled) (d : Direction) (w : Course) : Type 0 where
  pub modes : x.modes ≡ w.modes
  pub released : x.released ≡ w.released
  pub stopped : x.stopped ≡ is_stopped w
  pub passes : x.passes ≡ replaces (answer_to is_headers w)
  pub replaced : x.replaced ≡ is_some (replacement d w)
  pub headers : x.headers_answered ≡ is_some (answer_to is_headers w)
  pub body : x.body_answered ≡ is_some (answer_to is_body w)

pub record OfAsks (x : Asked) (w : Course) (handed : ℕ) : Type 0 where
  pub any : x.any ≡ not (is_empty w.asks)
  pub body : x.body ≡ list_any is_body w.asks
  pub last : x.last ≡ list_any is_last_piece w.asks
  pub trailers : x.trailers ≡ list_any is_trailers w.asks
  pub unsent : x.unsent + w.sent ≡ length w.asks
  pub unhanded : x.unhanded + handed ≡ length w.asks
  pub order : w.sent ≤ handed

-- the asks that were answered before they were handed out
abbrev pub answered_first : Direction → Course → ℕ → List Ask
answered_first d w handed = map (ask_of d) (drop handed (take (length w.answers) w.asks))

abbrev pub piece_bytes : Course → ℕ
piece_bytes w = length (flat_map (λ p. p) (answered_pieces w))

pub record OfCounts (x : Counts) (d : Direction) (w : Course) (handed : ℕ) : Type 0 where
  pub unasked : x.unasked ≡ unasked d w
  pub pieces : x.pieces ≡ piece_bytes w - w.given
  pub waiting : w.given + x.waiting ≡ handed

-- the body that the message has become, also while its head waits
abbrev pub flow : CourseConfig → Direction → Course → List ℕ
flow c d w = body_of (changed_at c w (Some (record { fields = []; framing = NoField })) (replacement d w))

-- the bytes of the original that left the hand: those in asks, and those that passed, which are out or were handed out
abbrev pub left_hand : Course → ℕ → ℕ
left_hand w outgoing = (if w.released then answered_bytes (pairs w) else asked_bytes w.asks) + (outgoing - piece_bytes w)

abbrev pub hand_of : Direction → Course → ℕ → List ℕ
hand_of d w outgoing = if is_some (replacement d w) then [] else drop (left_hand w outgoing) w.original.body

abbrev pub is_streamed : BodyMode → Bool
is_streamed Streamed = true
is_streamed _ = false

-- each is at most one piece
abbrev pub ArePieces : List (List ℕ) → Type 0
ArePieces [] = Unit {0}
ArePieces (b ∷ more) = (length b ≤ 16_384) × ArePieces more

-- bytes that pass stay at hand until they are handed out
pub record OfHold (x : Held) (c : CourseConfig) (d : Direction) (w : Course) (handed : ℕ) : Type 0 where
  pub lent : x.lent ≡ map bytes_in (filter is_body (out w))
  pub hand : x.hand ≡ hand_of d w (handed + length x.out)
  pub out : x.out ++ (if is_passing w then x.hand else []) ≡ drop handed (flow c d w)
  pub pieces_first : is_some (replacement d w) ≡ false → piece_bytes w ≤ handed + length x.out
  pub within : is_some (replacement d w) ≡ false → left_hand w (handed + length x.out) ≤ length w.original.body
  pub there : handed ≤ length (flow c d w)
  pub idle : list_any is_body w.asks ≡ false → is_some (replacement d w) ≡ false → x.out ≡ []
  pub hand_fits : length x.hand ≤ c.buffer_limit + 65_536
  pub lent_fits : is_streamed w.modes.body ≡ true → ArePieces x.lent

pub record OfGone (x : Gone) (p : Progress) : Type 0 where
  pub framing : x.framing ≡ option_map (λ (o : Outgoing). o.framing) p.course.head
  pub head : x.head ≡ p.taken.head
  pub trailers : x.trailers ≡ p.taken.trailers
  pub ended : x.ended ≡ p.taken.ended
  pub early : p.course.head ≡ None → p.taken.body ≡ 0

-- what the asks that are out are about is still kept
abbrev pub IsKept : Option (List Field) → Length → List Field → AskedPart → Type 0
IsKept head framed trailers (Headers fields last) = (head ≡ Some fields) × (last ≡ is_bodiless framed)
IsKept head framed trailers (Body bytes last) = Unit {0}
IsKept head framed trailers (Trailers fields) = trailers ≡ fields

abbrev pub AreKept : Option (List Field) → Length → List Field → List AskedPart → Type 0
AreKept head framed trailers [] = Unit {0}
AreKept head framed trailers (p ∷ asks) = IsKept head framed trailers p × AreKept head framed trailers asks

pub record Ties (c : CourseConfig) (d : Direction) (p : Progress) (x : Half) : Type 0 where
  pub arrived : OfOriginal x.arrived p.course.original
  pub rule : OfAnswers x.rule d p.course
  pub asked : OfAsks x.asked p.course p.handed
  pub ready : x.ready ≡ answered_first d p.course p.handed
  pub body_asks : BodyAsks p.course
  pub counts : OfCounts x.counts d p.course p.taken.body
  pub gone : OfGone x.gone p
  pub hold : OfHold x.hold c d p.course p.taken.body
  pub room : OfRoom x.hold c p.course.modes.headers p.course.asks p.course.original.body p.course.released
  pub pieces : OfPieces x.pieces (pieces_of d p.course) p.taken.body
  pub pieces_fit : x.counts.pieces ≤ 4_294_967_295
  pub pieces_room : p.course.released ≡ false → x.counts.pieces + most_back c.answer_limit x.hold.lent ≤ c.buffer_limit + c.answer_limit * 4 + 131_072
  pub marks : x.marks ≡ map mark_of (out p.course)
  pub head : x.head ≡ option_map (changed_head c d p.course) p.course.original.head
  pub fields : (o : Outgoing) → p.course.head ≡ Some o → x.head ≡ Some o.fields
  pub trailers : x.trailers ≡ under c TrailerPart p.course.original.trailers (answer_to is_trailers p.course)
  pub parts : AreKept x.head x.arrived.framed x.trailers (out p.course)
  pub few : x.counts.unasked ≤ (if p.course.released then c.buffer_limit * 2 + 131_072 else c.buffer_limit + 65_536)
  pub sound : Sound c p.course

-- the sizes of the product, and what the half was made with
pub record IsMade (c : CourseConfig) (d : Direction) (most : ℕ) (allowed : Rules) (way : Direction) (held answer : ℕ) : Type 0 where
  pub piece : c.piece ≡ 16_384
  pub mark : c.mark ≡ 65_536
  pub limit : c.buffer_limit ≡ most
  pub small : most ≤ 1_048_576
  pub rules : c.rules ≡ allowed
  pub direction : d ≡ way
  pub hold : held ≡ most
  pub answers : c.answer_limit ≡ answer
  pub few_answers : answer ≤ 2_097_152

abbrev pub MadeWith : CourseConfig → Direction → Half → Type 0
MadeWith c d x = IsMade c d x.limit x.rules x.direction x.hold.limit x.hold.answer

pub record StandsFor (p : Past) (x : Half) : Type 0 where
  pub made : MadeWith p.config p.direction x
  pub ties : Ties p.config p.direction (progress p) x

-- it stands for a past of which this holds
abbrev pub Stands : Half → (Past → Type 0) → Type 0
Stands x P = (p : Past) × StandsFor p x × P p

-- How a half is made

abbrev pub direction_of : Bool → Direction
direction_of true = Response
direction_of false = Request

pub record FitsSetup (c : CourseConfig) (setup : HalfSetup) : Type 0 where
  pub piece : c.piece ≡ 16_384
  pub mark : c.mark ≡ 65_536
  pub limit : c.buffer_limit ≡ setup.buffer_limit
  pub answer : c.answer_limit ≡ setup.answer_limit
  pub rules : c.rules ≡ setup.rules
