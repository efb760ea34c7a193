-- What the three parts of one direction stand for together: what was read, what its half was told, and what goes out.
use Rattle.std.specs.Prelude.{ℕ, ◌+◌, ◌-◌, ◌≡◌, ◌≤◌, ◌<◌, min, is_some, if◌then◌else◌, List, [], ◌∷◌, ◌++◌, length, take, Option, Some, None, Bool, true, false}
use Rattle.http_model.specs.Bytes.{IsPrefix}
use Rattle.ext_msgs.specs.declared.modes.PartModes.{PartModes}
use Rattle.filter_model.specs.Config.{CourseConfig}
use Rattle.ext_msgs.specs.declared.answer.Common.{Common}
use Rattle.http_model.specs.Heads.{head_so_far}
use Rattle.http_model.specs.Reading.{Partial}
use Rattle.header_mutation.specs.declared.setup.HalfSetup.{HalfSetup}
use Rattle.half_machine.specs.Stands.{FitsSetup, direction_of}
use Rattle.h1_message.specs.Stages.{reading_of}
use Rattle.h1_message.specs.declared.reader.MessageReader.{MessageReader}
use Rattle.h1_outlet.specs.declared.outlet.Outlet.{Outlet}
use Rattle.filter_model.specs.Course.{body_room}
use Rattle.filter_model.specs.Account.{given_count, is_given_at}
use Rattle.filter_model.specs.Half.{HalfCall, Given, Settle, Answer, HalfStep, Told, Past, progress, parts, becomes, course}
use Rattle.filter_model.specs.HalfRight.{IsPast, written_parts}
use Rattle.filter_model.specs.Outgoing.{IsWire}
use Rattle.filter_model.specs.Told.{told}
use Rattle.h1_message.specs.Source.{Source, original}
use Rattle.h1_message.specs.Stages as reader
use Rattle.h1_outlet.specs.Outlets.{Flowed, all}
use Rattle.h1_outlet.specs.Stands as outlet
use Rattle.half_machine.specs.Stands as half
use Rattle.exchange.specs.declared.flow.Flow.{Flow}

-- what one direction was told, and what it gave
pub record Story : Type 0 where
  pub source : Source
  pub past : Past
  pub flowed : Flowed

pub record FlowStands (s : Story) (x : Flow) : Type 0 where
  pub reader : reader.StandsFor s.source x.reader
  pub half : half.StandsFor s.past x.half
  pub outlet : outlet.StandsFor s.flowed x.outlet
  pub is_past : IsPast s.past
  pub parts : s.flowed.parts ≡ parts s.past.steps
  pub way : s.flowed.direction ≡ s.past.direction

-- it stands for a story of which this holds
abbrev pub HasStory : Flow → (Story → Type 0) → Type 0
HasStory x P = (s : Story) × FlowStands s x × P s

-- how many body bytes the bytes given so far have, by the head
abbrev pub counted : Story → ℕ
counted s = given_count s.past.direction (becomes s.past).head s.flowed.front (take s.flowed.given (all s.flowed))

-- a reply didn't take the message's place, it wasn't all given, and its given body bytes are counted
pub record IsUnfinished (s : Story) : Type 0 where
  pub reply : s.flowed.reply ≡ []
  pub unfinished : is_given_at s.past.direction (becomes s.past).head (becomes s.past) s.flowed.front (take s.flowed.given (all s.flowed)) ≡ false
  pub counts : (course s.past).given ≡ counted s

-- One step more

abbrev pub with_step : HalfStep → Story → Story
with_step step s = record s { past = record s.past { steps = step ∷ s.past.steps } }

abbrev pub with_call : HalfCall → Story → Story
with_call call s = with_step (Told call) s

-- what the half and the outlet were is unchanged but for parts that were handed on
pub record SameStory (s s' : Story) : Type 0 where
  pub source : s'.source ≡ s.source
  pub config : (s'.past.config ≡ s.past.config) × (s'.past.direction ≡ s.past.direction)
  pub course : course s'.past ≡ course s.past
  pub handed : (progress s'.past).handed ≡ (progress s.past).handed
  pub front : s'.flowed.front ≡ s.flowed.front
  pub reply : s'.flowed.reply ≡ s.flowed.reply
  pub given : s'.flowed.given ≡ s.flowed.given
  pub first : take s.flowed.given (all s'.flowed) ≡ take s.flowed.given (all s.flowed)

-- nothing more may go out by now: what was given is a wire of what the message has become
pub record NothingWaits (s : Story) : Type 0 where
  pub given : take s.flowed.given (all s.flowed) ≡ all s.flowed
  pub wire : IsWire s.past.direction (becomes s.past) (written_parts s.past.direction s.flowed.parts)

-- these bytes were given, and its half was told how many of them are of the body
pub record Gone (max : ℕ) (s : Story) (bytes : List ℕ) (s' : Story) : Type 0 where
  pub source : s'.source ≡ s.source
  pub config : (s'.past.config ≡ s.past.config) × (s'.past.direction ≡ s.past.direction)
  pub handed : (progress s'.past).handed ≡ (progress s.past).handed
  pub front : s'.flowed.front ≡ s.flowed.front
  pub reply : s'.flowed.reply ≡ []
  pub some : 0 < length bytes
  pub most : length bytes ≤ max
  pub given : s'.flowed.given ≡ s.flowed.given + length bytes
  pub next : take s'.flowed.given (all s'.flowed) ≡ take s.flowed.given (all s.flowed) ++ bytes
  -- by the head that was chosen before
  pub told : course s'.past ≡ told s.past.config s.past.direction (Given (given_count s.past.direction (becomes s.past).head s.flowed.front (take s'.flowed.given (all s'.flowed)) - (course s.past).given) ∷ []) (course s.past)
  pub wire : (wire : List ℕ) × IsWire s.past.direction (becomes s.past) wire × IsPrefix (written_parts s.past.direction s'.flowed.parts) wire

abbrev pub Took : ℕ → Story → Option (List ℕ) → Flow → Type 0
Took max s None x = NothingWaits s × FlowStands s x
Took max s (Some bytes) x = (s' : Story) × FlowStands s' x × Gone max s bytes s'

-- What it answers

-- how many bytes its side may bring: of a head as far as its limit, and of a body as far as its half has room
abbrev pub room_of : Story → ℕ
room_of s =
    if (original s.source).whole then 0
    else if is_some (original s.source).head then body_room s.past.config s.past.direction (course s.past)
    else min 16_384 (32_768 - length (head_so_far s.source.direction s.source.brought))

-- no head is bad
abbrev pub IsReadable : Story → Type 0
IsReadable s = (original s.source).head ≡ None → reading_of s.source ≡ Partial

-- the modes are told while the ask of the headers is out
abbrev pub answer_calls : Bool → Option PartModes → Common → List HalfCall
answer_calls true (Some modes) a = Settle modes ∷ Answer a ∷ []
answer_calls _ _ a = Answer a ∷ []

-- with nothing told
pub record IsFresh (reader : MessageReader) (outlet : Outlet) (setup : HalfSetup) (x : Flow) : Type 0 where
  pub reads : x.reader ≡ reader
  pub gives : x.outlet ≡ outlet
  pub half : (c : CourseConfig) → FitsSetup c setup → half.StandsFor (record { config = c; direction = direction_of setup.response; modes = setup.modes; steps = [] }) x.half
  pub extended : x.extended ≡ false
  pub lost : x.lost ≡ false

-- its timer and its loss are as they were
pub record SameMarks (x y : Flow) : Type 0 where
  pub deadline : y.deadline ≡ x.deadline
  pub extended : y.extended ≡ x.extended
  pub lost : y.lost ≡ x.lost
