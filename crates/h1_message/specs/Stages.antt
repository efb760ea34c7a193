-- What the stages of a reader stand for, what they tell, and what bytes give.
use Rattle.std.specs.Prelude.{ℕ, ◌≡◌, Bool, true, false, not, ◌&&◌, List, [], ◌++◌, length, drop, Option, Some, None, is_some}
use Rattle.std.specs.Option.{option_map}
use Rattle.ext_msgs.specs.declared.lists.Field.{Field}
use Rattle.http_model.specs.Bytes.{is_empty}
use Rattle.http_model.specs.Reading.{Reading, Fault}
use Rattle.http_model.specs.Reading as reading
use Rattle.http_model.specs.Heads.{Head, message_head, head_so_far}
use Rattle.http_model.specs.Bodies as bodies
use Rattle.http_model.specs.Bodies.{body, part, faulty, whole_body}
use Rattle.http_model.specs.Reads.{Original}
use Rattle.http_model.specs.declared.types.Direction.{Direction}
use Rattle.http_model.specs.declared.types.Direction.TheVariants.{Request, Response}
use Rattle.http_model.specs.declared.types.Length.{Length}
use Rattle.http_model.specs.declared.types.Length.TheVariants.{NoBody as Bodiless, Known, Chunked, Close}
use Rattle.h1_read.specs.HeadReading.{HeadState}
use Rattle.h1_read.specs.Messages.{fault_of}
use Rattle.h1_read.specs.Remaining.{Rest, remaining, kept_bytes}
use Rattle.h1_read.specs.declared.fault.H1Fault.{H1Fault}
use Rattle.h1_read.specs.declared.fault.H1Fault.TheVariants.{CutShort}
use Rattle.h1_read.specs.declared.message.Message.{Message}
use Rattle.h1_message.specs.Source.{Source}
use Rattle.h1_message.specs.declared.body.Next.{Next}
use Rattle.h1_message.specs.declared.body.Next.TheVariants.{On, Bad, Whole}
use Rattle.h1_message.specs.declared.head.HeadFed.{HeadFed}
use Rattle.h1_message.specs.declared.head.HeadFed.TheVariants as fed
use Rattle.h1_message.specs.declared.news.News.{News}
use Rattle.h1_message.specs.declared.reader.MessageReader.{MessageReader}
use Rattle.h1_message.specs.declared.stage.Stage.{Stage}
use Rattle.h1_message.specs.declared.stage.Stage.TheVariants as stage
use Rattle.h1_message.specs.declared.step.Given.{Given}

-- no byte came
pub record IsUnbegun (s : Source) (d : Direction) (to_head : Bool) : Type 0 where
  pub direction : s.direction ≡ d
  pub same : (bytes : List ℕ) → message_head s.direction s.to_head bytes ≡ message_head d to_head bytes
  pub none : s.brought ≡ []

-- the head isn't whole
pub record InHead (s : Source) (h : HeadState) : Type 0 where
  pub direction : s.direction ≡ h.direction
  pub same : (bytes : List ℕ)
      → message_head s.direction s.to_head bytes ≡ message_head h.direction h.to_head bytes
  pub so_far : h.so_far ≡ head_so_far s.direction s.brought
  pub reads : message_head s.direction s.to_head s.brought ≡ reading.Partial

-- a reader of a head before its first byte
pub record IsNewHead (d : Direction) (to_head : Bool) (h : HeadState) : Type 0 where
  pub direction : h.direction ≡ d
  pub same : (bytes : List ℕ) → message_head d to_head bytes ≡ message_head h.direction h.to_head bytes
  pub none : h.so_far ≡ []

-- no head can be read
pub record HasNoHead (r : Reading Head) (e : H1Fault) : Type 0 where
  pub fault : Fault
  pub named : fault_of e ≡ Some fault
  pub reads : r ≡ reading.Bad fault

-- the body goes on behind what came of it
pub record InBody (r : Reading Head) (length : Length) (rest : Rest) : Type 0 where
  pub head : Head
  pub behind : List ℕ
  pub came : List ℕ
  pub reads : r ≡ reading.Whole head behind
  pub framed : head.length ≡ length
  pub on : (ended : Bool) (more : List ℕ)
      → body length ended (behind ++ more) ≡ bodies.behind came (remaining rest ended more)
  pub unfinished : remaining rest false [] ≡ part []

-- the body has a fault, whatever follows
pub record HasNoBody (r : Reading Head) (e : H1Fault) : Type 0 where
  pub head : Head
  pub behind : List ℕ
  pub came : List ℕ
  pub fault : Fault
  pub reads : r ≡ reading.Whole head behind
  pub named : fault_of e ≡ Some fault
  pub stays : (ended : Bool) (more : List ℕ) → body head.length ended (behind ++ more) ≡ faulty came fault

-- the body is whole, whatever follows
pub record HasAll (r : Reading Head) : Type 0 where
  pub head : Head
  pub behind : List ℕ
  pub came : List ℕ
  pub trailers : List Field
  pub left : List ℕ
  pub reads : r ≡ reading.Whole head behind
  pub stays : (ended : Bool) (more : List ℕ)
      → body head.length ended (behind ++ more) ≡ whole_body came trailers (left ++ more)

-- by what the bytes so far give of the head
abbrev pub IsAtStage : Source → Reading Head → Stage → Type 0
IsAtStage s r (stage.Unbegun d to_head) = IsUnbegun s d to_head
IsAtStage s r (stage.Head h) = InHead s h
IsAtStage s r (stage.NoHead e) = HasNoHead r e
IsAtStage s r (stage.Body length rest) = InBody r length rest
IsAtStage s r (stage.NoBody e) = HasNoBody r e
IsAtStage s r stage.Whole = HasAll r

-- what all bytes so far give of the head
abbrev pub reading_of : Source → Reading Head
reading_of s = message_head s.direction s.to_head s.brought

-- a byte came
abbrev pub begun_at : Stage → Bool
begun_at (stage.Unbegun d to_head) = false
begun_at (stage.Head h) = true
begun_at (stage.NoHead e) = true
begun_at (stage.Body length rest) = true
begun_at (stage.NoBody e) = true
begun_at stage.Whole = true

pub record Stands (s : Source) (x : Stage) : Type 0 where
  pub is : IsAtStage s (reading_of s) x
  pub begun : begun_at x ≡ not (is_empty s.brought)

-- What a stage tells of the message

-- the body ends with the connection
abbrev pub is_close : Length → Bool
is_close Bodiless = false
is_close (Known n) = false
is_close Chunked = false
is_close Close = true

abbrev pub whole_at : Stage → Bool → Bool
whole_at (stage.Unbegun d to_head) ended = false
whole_at (stage.Head h) ended = false
whole_at (stage.NoHead e) ended = false
whole_at (stage.Body length rest) ended = ended && is_close length
whole_at (stage.NoBody e) ended = false
whole_at stage.Whole ended = true

-- the fault of what an end leaves unfinished
abbrev pub cut : Bool → Option H1Fault
cut true = Some CutShort
cut false = None

abbrev pub fault_at : Stage → Bool → Option H1Fault
fault_at (stage.Unbegun Request to_head) ended = None
fault_at (stage.Unbegun Response to_head) ended = cut ended
fault_at (stage.Head h) ended = cut ended
fault_at (stage.NoHead e) ended = Some e
fault_at (stage.Body length rest) ended = cut (ended && not (is_close length))
fault_at (stage.NoBody e) ended = Some e
fault_at stage.Whole ended = None

abbrev pub headed_at : Stage → Bool
headed_at (stage.Unbegun d to_head) = false
headed_at (stage.Head h) = false
headed_at (stage.NoHead e) = false
headed_at (stage.Body length rest) = true
headed_at (stage.NoBody e) = true
headed_at stage.Whole = true

-- of the head, or of what its body reader keeps
abbrev pub held_at : Stage → ℕ
held_at (stage.Unbegun d to_head) = 0
held_at (stage.Head h) = length h.so_far
held_at (stage.NoHead e) = 0
held_at (stage.Body n rest) = length (kept_bytes rest)
held_at (stage.NoBody e) = 0
held_at stage.Whole = 0

-- what a reader stands for: all that it was told
pub record StandsFor (s : Source) (x : MessageReader) : Type 0 where
  pub stage : Stands s x.stage
  pub ended : x.ended ≡ s.ended

-- What bytes give

-- behind bytes of a body of this length
abbrev pub stage_behind : Length → Next → Stage
stage_behind n (On rest) = stage.Body n rest
stage_behind n (Bad e) = stage.NoBody e
stage_behind n (Whole trailers) = stage.Whole

abbrev pub trailers_of : Next → List Field
trailers_of (On rest) = []
trailers_of (Bad e) = []
trailers_of (Whole trailers) = trailers

abbrev pub nothing : Given
nothing = record { head = None; body = []; trailers = [] }

-- the stage, where it isn't the head that goes on, and what came
abbrev pub told : HeadFed → Option Stage × Given
told fed.On = (None, nothing)
told (fed.Bad e) = (Some (stage.NoHead e), nothing)
told (fed.Got m b) = (
  Some (stage_behind m.length b.next),
  record { head = Some m; body = b.content; trailers = trailers_of b.next },
)

-- what bytes give, by the messages before and behind them
pub record IsGiven (before now : Original) (given : Given) : Type 0 where
  pub head : before.head ≡ None → option_map (λ (m : Message). m.head) given.head ≡ now.head
  pub once : is_some before.head ≡ true → given.head ≡ None
  pub stated : (m : Message) → given.head ≡ Some m → (m.length ≡ now.length) × (m.expects ≡ now.expects)
  pub body : given.body ≡ drop (length before.body) now.body
  pub trailers : before.whole ≡ false → given.trailers ≡ now.trailers

-- what came, and how the message stands by now
abbrev pub news_of : Stage → Bool → Given → News
news_of x ended given = record {
  head = given.head;
  body = given.body;
  whole = whole_at x ended;
  trailers = given.trailers;
  fault = fault_at x ended;
}
