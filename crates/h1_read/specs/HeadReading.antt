-- What a reader of heads keeps, and what a feed answers.
use Rattle.std.specs.Prelude.{ℕ, ◌≡◌, ◌≤◌, ◌++◌, Bool, List, length, drop, Option, Some, None, Result, Ok, Err}
use Rattle.http_model.specs.Reading.{Fault}
use Rattle.http_model.specs.Reading as reading
use Rattle.http_model.specs.Heads.{message_head, head_so_far}
use Rattle.http_model.specs.declared.types.Direction.{Direction}
use Rattle.h1_read.specs.Messages.{head_of, IsFault}
use Rattle.h1_read.specs.declared.fault.H1Fault.{H1Fault}
use Rattle.h1_read.specs.declared.fault.H1Fault.TheVariants.{Memory}
use Rattle.h1_read.specs.declared.message.Message.{Message}
use Rattle.h1_read.specs.declared.place.Place.{Place}
use Rattle.h1_read.specs.declared.place.Place.TheVariants.{Before}
use Rattle.h1_read.specs.declared.reader.HeadFed.{HeadFed}
use Rattle.h1_read.specs.declared.reader.HeadFed.TheVariants as feds
use Rattle.h1_read.specs.Places.{places}
use Rattle.h1_read.specs.Steps.{IsOpen}

-- a reader of requests, or of responses to a request that was HEAD or not, with the bytes of its unfinished head
pub record HeadState : Type 0 where
  pub direction : Direction
  pub to_head : Bool
  pub so_far : List ℕ

-- the head, in the first so many bytes
pub record IsFedHead (s : HeadState) (bytes : List ℕ) (m : Message) (used : ℕ) : Type 0 where
  pub in_range : used ≤ length bytes
  pub head : message_head s.direction s.to_head (s.so_far ++ bytes) ≡ reading.Whole (head_of m) (drop used bytes)

-- a fault of the bytes
pub record IsFedFault (s : HeadState) (bytes : List ℕ) (e : H1Fault) : Type 0 where
  pub fault : Fault
  pub is : IsFault e fault
  pub head : message_head s.direction s.to_head (s.so_far ++ bytes) ≡ reading.Bad fault

-- all bytes were taken, and no head is whole
pub record IsFedOn (s : HeadState) (bytes : List ℕ) (s' : HeadState) : Type 0 where
  pub head : message_head s.direction s.to_head (s.so_far ++ bytes) ≡ reading.Partial
  pub state : s' ≡ record s { so_far = head_so_far s.direction (s.so_far ++ bytes) }

-- What a feed answers: but for bytes that are taken it leaves the reader as it was.
abbrev pub IsFed : HeadState → List ℕ → HeadState → Result (Option (Message × ℕ)) H1Fault → Type 0
IsFed s bytes s' (Ok None) = IsFedOn s bytes s'
IsFed s bytes s' (Ok (Some got)) = IsFedHead s bytes got.0 got.1 × (s' ≡ s)
IsFed s bytes s' (Err Memory) = s' ≡ s
IsFed s bytes s' (Err e) = IsFedFault s bytes e × (s' ≡ s)

-- the head goes on, with these bytes, which end at this place
pub record IsKeptOn (s : HeadState) (bytes now : List ℕ) (place : Place) : Type 0 where
  pub on : IsFedOn s bytes (record s { so_far = now })
  pub still : IsOpen s.direction now
  pub there : place ≡ places Before now

-- what a piece gives; out of memory says nothing
abbrev pub IsHeadFed : HeadState → List ℕ → Result HeadFed H1Fault → Type 0
IsHeadFed s bytes (Ok (feds.Got m used)) = IsFedHead s bytes m used
IsHeadFed s bytes (Ok (feds.On now place)) = IsKeptOn s bytes now.items place
IsHeadFed s bytes (Err Memory) = Unit {0}
IsHeadFed s bytes (Err e) = IsFedFault s bytes e
