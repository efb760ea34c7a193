-- What reading a whole message gives.
use Rattle.std.specs.Prelude.{◌≡◌, ℕ, List, length, Option, Some, None, Result, Ok, Err}
use Rattle.pb_wire.specs.Walk.{entries}
use Rattle.ext_msgs.specs.declared.fault.MsgFault.{MsgFault}
use Rattle.ext_msgs.specs.declared.fault.MsgFault.TheVariants.{Wire, Utf8, BadNumber, NoMember, Memory}
use Rattle.ext_msgs.specs.declared.answer.Answer.{Answer}
use Rattle.ext_msgs.specs.declared.ask.Ask.{Ask}
use Rattle.ext_msgs.specs.Fields.{last_place}
use Rattle.ext_msgs.specs.MessageFault.{first_fault, answer_fault, ask_fault}
use Rattle.ext_msgs.specs.MessageValue.{answer_value, ask_value}

-- the first fault of the records where there is one, and else what all of them say
abbrev pub unless : {X : Type 0} → Option MsgFault → Result X MsgFault → Result X MsgFault
unless None value = value
unless (Some fault) value = Err fault

-- ProcessingResponse
abbrev pub answer_of : List ℕ → Result Answer MsgFault
answer_of bytes = unless (first_fault answer_fault (length bytes) bytes) (answer_value (last_place 7 (length bytes) bytes) (entries bytes))

-- ProcessingRequest
abbrev pub ask_of : List ℕ → Result Ask MsgFault
ask_of bytes = unless (first_fault ask_fault (length bytes) bytes) (ask_value (entries bytes))

-- A reader's result is this, or memory ran out.
abbrev pub IsRead : {X : Type 0} → Result X MsgFault → Result X MsgFault → Type 0
IsRead (Ok x) told = told ≡ Ok x
IsRead (Err Memory) told = Unit {0}
IsRead (Err (Wire f)) told = told ≡ Err (Wire f)
IsRead (Err (Utf8 place)) told = told ≡ Err (Utf8 place)
IsRead (Err (BadNumber place)) told = told ≡ Err (BadNumber place)
IsRead (Err NoMember) told = told ≡ Err NoMember
