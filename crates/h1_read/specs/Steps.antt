-- What all bytes of a head so far give.
use Rattle.std.specs.Prelude.{ℕ, suc, ◌≡◌, ◌<◌, ◌≤◌, ◌++◌, Bool, List, length, drop, Result, Ok, Err}
use Rattle.http_model.specs.Reading.{Reading, Fault}
use Rattle.http_model.specs.Reading as reading
use Rattle.http_model.specs.Heads.{message_head, head_so_far, response_message_in, behind_interims}
use Rattle.http_model.specs.declared.types.Direction.{Direction}
use Rattle.http_model.specs.declared.types.Direction.TheVariants.{Request, Response}
use Rattle.h1_read.specs.HeadParts.{request_lines, response_lines}
use Rattle.h1_read.specs.Messages.{head_of, IsFault}
use Rattle.h1_read.specs.declared.fault.H1Fault.{H1Fault}
use Rattle.h1_read.specs.declared.fault.H1Fault.TheVariants.{Memory}
use Rattle.h1_read.specs.declared.message.Message.{Message}
use Rattle.h1_read.specs.declared.step.Turn.{Turn}
use Rattle.h1_read.specs.declared.step.Turn.TheVariants as turn
use Rattle.h1_read.specs.declared.step.Step.{Step}
use Rattle.h1_read.specs.declared.step.Step.TheVariants as step

-- a head has begun and isn't whole; interim responses aren't among these bytes
abbrev pub IsOpen : Direction → List ℕ → Type 0
IsOpen Request bytes = request_lines bytes ≡ reading.Partial
IsOpen Response bytes = response_lines bytes ≡ reading.Partial

-- no open head ends behind these
abbrev pub IsPast : Direction → List ℕ → ℕ → Type 0
IsPast d bytes used = (kept more : List ℕ) → bytes ≡ kept ++ more → IsOpen d kept → length kept ≤ used

pub record IsInterim (to_head : Bool) (bytes : List ℕ) (used : ℕ) : Type 0 where
  pub in_range : used ≤ length bytes
  pub some : 0 < used
  pub message : (n : ℕ) → response_message_in (suc n) to_head bytes ≡ response_message_in n to_head (drop used bytes)
  pub left : (n : ℕ) → behind_interims (suc n) bytes ≡ behind_interims n (drop used bytes)
  pub past : IsPast Response bytes used

pub record IsFinal (to_head : Bool) (bytes : List ℕ) (m : Message) (used : ℕ) : Type 0 where
  pub in_range : used ≤ length bytes
  pub message : (n : ℕ) → response_message_in (suc n) to_head bytes ≡ reading.Whole (head_of m) (drop used bytes)
  pub past : IsPast Response bytes used

pub record IsBadTurn (to_head : Bool) (bytes : List ℕ) (e : H1Fault) : Type 0 where
  pub fault : Fault
  pub is : IsFault e fault
  pub message : (n : ℕ) → response_message_in (suc n) to_head bytes ≡ reading.Bad fault

-- the first response of these bytes
abbrev pub IsTurn : Bool → List ℕ → Result Turn H1Fault → Type 0
IsTurn to_head bytes (Ok (turn.Interim used)) = IsInterim to_head bytes used
IsTurn to_head bytes (Ok (turn.Final m used)) = IsFinal to_head bytes m used
IsTurn to_head bytes (Ok turn.Open) = response_lines bytes ≡ reading.Partial
IsTurn to_head bytes (Err Memory) = Unit {0}
IsTurn to_head bytes (Err e) = IsBadTurn to_head bytes e

pub record IsGot (d : Direction) (to_head : Bool) (bytes : List ℕ) (m : Message) (used : ℕ) : Type 0 where
  pub in_range : used ≤ length bytes
  pub message : message_head d to_head bytes ≡ reading.Whole (head_of m) (drop used bytes)
  pub past : IsPast d bytes used

pub record IsLeft (d : Direction) (to_head : Bool) (bytes : List ℕ) (at : ℕ) : Type 0 where
  pub in_range : at ≤ length bytes
  pub message : message_head d to_head bytes ≡ reading.Partial
  pub left : head_so_far d bytes ≡ drop at bytes
  pub still : IsOpen d (drop at bytes)

pub record IsBadStep (d : Direction) (to_head : Bool) (bytes : List ℕ) (e : H1Fault) : Type 0 where
  pub fault : Fault
  pub is : IsFault e fault
  pub message : message_head d to_head bytes ≡ reading.Bad fault

-- the message whose head these bytes are
abbrev pub IsStep : Direction → Bool → List ℕ → Result Step H1Fault → Type 0
IsStep d to_head bytes (Ok (step.Got m used)) = IsGot d to_head bytes m used
IsStep d to_head bytes (Ok (step.Left at)) = IsLeft d to_head bytes at
IsStep d to_head bytes (Err Memory) = Unit {0}
IsStep d to_head bytes (Err e) = IsBadStep d to_head bytes e
