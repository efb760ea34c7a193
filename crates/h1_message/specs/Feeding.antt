-- What bytes of a body give.
use Rattle.std.specs.Prelude.{ℕ, ◌≡◌, ◌≤◌, Bool, true, false, List, [], ◌++◌, length, Some, is_some}
use Rattle.ext_msgs.specs.declared.lists.Field.{Field}
use Rattle.http_model.specs.Reading.{Fault}
use Rattle.http_model.specs.Reading as reading
use Rattle.http_model.specs.Heads.{message_head}
use Rattle.http_model.specs.Bodies.{part, faulty, whole_body, behind}
use Rattle.h1_read.specs.HeadReading.{HeadState, IsFedOn}
use Rattle.h1_read.specs.Messages.{fault_of, head_of}
use Rattle.h1_read.specs.Remaining.{Rest, at_start, remaining}
use Rattle.h1_read.specs.declared.fault.H1Fault.{H1Fault}
use Rattle.h1_read.specs.declared.message.Message.{Message}
use Rattle.h1_message.specs.declared.body.Next.{Next}
use Rattle.h1_message.specs.declared.body.Next.TheVariants.{On, Bad, Whole}
use Rattle.h1_message.specs.declared.body.BodyFed.{BodyFed}
use Rattle.h1_message.specs.declared.head.HeadFed.{HeadFed}
use Rattle.h1_message.specs.declared.head.HeadFed.TheVariants as head

-- the same fault, which is one of the bytes
abbrev pub IsNamed : H1Fault → H1Fault → Type 0
IsNamed e e' = (e' ≡ e) × (is_some (fault_of e) ≡ true)

-- the body goes on
pub record BodyGoesOn (before : Rest) (bytes content : List ℕ) (after : Rest) : Type 0 where
  pub on : (ended : Bool) (more : List ℕ)
      → remaining before ended (bytes ++ more) ≡ behind content (remaining after ended more)
  pub unfinished : remaining after false [] ≡ part []

-- it can't be read on, whatever follows
pub record Fails (before : Rest) (bytes content : List ℕ) (e : H1Fault) : Type 0 where
  pub fault : Fault
  pub named : fault_of e ≡ Some fault
  pub stays : (ended : Bool) (more : List ℕ) → remaining before ended (bytes ++ more) ≡ faulty content fault

-- it is whole, whatever follows
pub record BodyEnds (before : Rest) (bytes content : List ℕ) (trailers : List Field) : Type 0 where
  pub left : List ℕ
  pub whole : (ended : Bool) (more : List ℕ)
      → remaining before ended (bytes ++ more) ≡ whole_body content trailers (left ++ more)

abbrev pub IsNext : Rest → List ℕ → List ℕ → Next → Type 0
IsNext before bytes content (On after) = BodyGoesOn before bytes content after
IsNext before bytes content (Bad e) = Fails before bytes content e
IsNext before bytes content (Whole trailers) = BodyEnds before bytes content trailers

pub record IsBodyFed (before : Rest) (bytes : List ℕ) (fed : BodyFed) : Type 0 where
  pub short : length fed.content ≤ length bytes
  pub next : IsNext before bytes fed.content fed.next

-- no head, whatever follows
pub record IsBad (s : HeadState) (bytes : List ℕ) (e : H1Fault) : Type 0 where
  pub fault : Fault
  pub named : fault_of e ≡ Some fault
  pub reads : message_head s.direction s.to_head (s.so_far ++ bytes) ≡ reading.Bad fault

-- a head, and what the bytes behind it give of the body
pub record GotHead (s : HeadState) (bytes : List ℕ) (m : Message) (fed : BodyFed) : Type 0 where
  pub behind : List ℕ
  pub inside : length behind ≤ length bytes
  pub reads : message_head s.direction s.to_head (s.so_far ++ bytes) ≡ reading.Whole (head_of m) behind
  pub body : IsBodyFed (at_start m.length) behind fed

abbrev pub HeadWasFed : HeadState → List ℕ → HeadState → HeadFed → Type 0
HeadWasFed s bytes s' head.On = IsFedOn s bytes s'
HeadWasFed s bytes s' (head.Bad e) = IsBad s bytes e
HeadWasFed s bytes s' (head.Got m fed) = GotHead s bytes m fed
