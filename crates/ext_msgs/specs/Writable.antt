-- Which values can be written, so that what is written is read back.
use Rattle.std.specs.Prelude.{◌≡◌, ◌<◌, ◌≤◌, ◌^◌, List, length, Option, Some, None}
use Rattle.std.specs.List.{All}
use Rattle.std.specs.Int.{w32, w64}
use Rattle.std.specs.Int.RustNames.{FitsSigned}
use Rattle.std.specs.Str.{IsUtf8}
use Rattle.ext_msgs.specs.declared.lists.Field.{Field}
use Rattle.ext_msgs.specs.declared.lists.SetField.{SetField}
use Rattle.ext_msgs.specs.declared.ask.Ask.{Ask}
use Rattle.ext_msgs.specs.declared.ask.Ask.TheVariants as asks
use Rattle.ext_msgs.specs.declared.answer.HeaderMutation.{HeaderMutation}
use Rattle.ext_msgs.specs.declared.answer.Immediate.{Immediate}
use Rattle.ext_msgs.specs.declared.answer.ModeNumbers.{ModeNumbers}
use Rattle.ext_msgs.specs.declared.answer.Span.{Span}
use Rattle.ext_msgs.specs.declared.answer.Member.{Member}
use Rattle.ext_msgs.specs.declared.answer.Member.TheVariants as members
use Rattle.ext_msgs.specs.declared.answer.Answer.{Answer}
use Rattle.ext_msgs.specs.Spelling.{ask, answer}

abbrev pub AreFields : List Field → Type 0
AreFields fields = All (λ field. IsUtf8 field.name) fields

abbrev pub HasTexts : Ask → Type 0
HasTexts (asks.RequestHeaders fields end) = AreFields fields
HasTexts (asks.ResponseHeaders fields end) = AreFields fields
HasTexts (asks.RequestBody body end) = Unit {0}
HasTexts (asks.ResponseBody body end) = Unit {0}
HasTexts (asks.RequestTrailers fields) = AreFields fields
HasTexts (asks.ResponseTrailers fields) = AreFields fields

-- names are texts, and the whole is shorter than 2^31 bytes
pub record IsWritableAsk (a : Ask) : Type 0 where
  pub texts : HasTexts a
  pub short : length (ask a) < 2 ^ 31

abbrev pub IsSettable : SetField → Type 0
IsSettable field = IsUtf8 field.name × (field.action ≤ 3)

pub record IsMutation (m : HeaderMutation) : Type 0 where
  pub sets : All IsSettable m.set
  pub removes : All IsUtf8 m.remove

pub record IsImmediate (i : Immediate) : Type 0 where
  pub least : 200 ≤ i.code
  pub most : i.code ≤ 599
  pub headers : IsMutation i.headers

abbrev pub IsMember : Member → Type 0
IsMember members.Unset = Unit {0}
IsMember (members.RequestHeaders c) = IsMutation c.headers
IsMember (members.ResponseHeaders c) = IsMutation c.headers
IsMember (members.RequestBody c) = IsMutation c.headers
IsMember (members.ResponseBody c) = IsMutation c.headers
IsMember (members.RequestTrailers m) = IsMutation m
IsMember (members.ResponseTrailers m) = IsMutation m
IsMember (members.Immediate i) = IsImmediate i

-- without a member there is a timeout
abbrev pub SaysSomething : Member → Option Span → Type 0
SaysSomething members.Unset None = ⊥
SaysSomething member timeout = Unit {0}

-- the numbers are those of their types
abbrev pub AreModes : Option ModeNumbers → Type 0
AreModes None = Unit {0}
AreModes (Some modes) = (length modes.numbers ≡ 6) × All (FitsSigned w32) modes.numbers

abbrev pub IsTimeout : Option Span → Type 0
IsTimeout None = Unit {0}
IsTimeout (Some timeout) = FitsSigned w64 timeout.seconds × FitsSigned w32 timeout.nanos

-- Names are texts, actions and codes are within bounds, there is a member or a timeout, and the whole is shorter than
-- 2^31 bytes.
pub record IsWritableAnswer (a : Answer) : Type 0 where
  pub member : IsMember a.member
  pub something : SaysSomething a.member a.timeout
  pub modes : AreModes a.modes
  pub timeout : IsTimeout a.timeout
  pub short : length (answer a) < 2 ^ 31
