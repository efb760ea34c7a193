-- What a reader of a message was told of its side, and what it tells.
use Rattle.std.specs.Prelude.{ℕ, ◌≡◌, Bool, true, false, List, [], ◌++◌, length, drop, Option, Some, None, is_some}
use Rattle.std.specs.Option.{option_map}
use Rattle.http_model.specs.Reading.{Fault}
use Rattle.http_model.specs.Reads.{Original, reads}
use Rattle.http_model.specs.declared.types.Direction.{Direction}
use Rattle.h1_read.specs.Messages.{fault_of}
use Rattle.h1_read.specs.declared.fault.H1Fault.{H1Fault}
use Rattle.h1_read.specs.declared.message.Message.{Message}
use Rattle.h1_message.specs.declared.news.News.{News}

-- what a reader was told of its side
pub record Source : Type 0 where
  pub direction : Direction
  pub to_head : Bool  -- of a response: its request was HEAD
  pub brought : List ℕ  -- all bytes so far
  pub ended : Bool  -- and no more come

-- nothing was told
abbrev pub untold : Direction → Source
untold d = record { direction = d; to_head = false; brought = []; ended = false }

-- the message that they are so far
abbrev pub original : Source → Original
original s = reads s.direction s.to_head s.brought s.ended

abbrev pub more : List ℕ → Source → Source
more bytes s = record s { brought = s.brought ++ bytes }

abbrev pub ended : Source → Source
ended s = record s { ended = true }

abbrev pub told_to_head : Bool → Source → Source
told_to_head to_head s = record s { to_head = to_head }

-- the fault that is named; out of memory names none
abbrev pub named : Option H1Fault → Option Fault
named None = None
named (Some e) = fault_of e

-- what a call tells, by the messages before and behind it
pub record IsNews (before now : Original) (news : News) : Type 0 where
  pub head : before.head ≡ None → option_map (λ (m : Message). m.head) news.head ≡ now.head
  pub once : is_some before.head ≡ true → news.head ≡ None
  pub stated : (m : Message) → news.head ≡ Some m → (m.length ≡ now.length) × (m.expects ≡ now.expects)
  pub body : news.body ≡ drop (length before.body) now.body
  pub whole : news.whole ≡ now.whole
  pub trailers : before.whole ≡ false → news.trailers ≡ now.trailers
  pub fault : named news.fault ≡ now.fault
  pub spoken : is_some news.fault ≡ is_some now.fault
