-- A message's head, as its readers answer.
use Rattle.std.specs.Prelude.{ℕ, ◌≡◌, List, [], ◌∷◌, codes, is_none, if◌then◌else◌, Option, Some, None, Result, Ok, Err}
use Rattle.ext_msgs.specs.declared.lists.Field.{Field}
use Rattle.http_model.specs.Reading.{Reading, Fault}
use Rattle.http_model.specs.Reading as reading
use Rattle.http_model.specs.Heads.{Head, StatusLine, stated_length, shown_fields}
use Rattle.http_model.specs.Bytes.{field, without}
use Rattle.http_model.specs.declared.types.Direction.TheVariants.{Response}
use Rattle.h1_read.specs.declared.fault.H1Fault.{H1Fault}
use Rattle.h1_read.specs.declared.fault.H1Fault.TheVariants.{BadHead, LongHead, BadLength, BadChunk, Version, Method, CutShort, Memory}
use Rattle.h1_read.specs.declared.message.Message.{Message}

-- what a fault says of the bytes; out of memory says nothing
abbrev pub fault_of : H1Fault → Option Fault
fault_of BadHead = Some reading.BadHead
fault_of LongHead = Some reading.LongHead
fault_of BadLength = Some reading.BadLength
fault_of BadChunk = Some reading.BadChunk
fault_of Version = Some reading.Version
fault_of Method = Some reading.Method
fault_of CutShort = Some reading.CutShort
fault_of Memory = None

-- the fault is this one, or memory ran out
abbrev pub IsFault : H1Fault → Fault → Type 0
IsFault Memory f = Unit {0}
IsFault e f = fault_of e ≡ Some f

abbrev pub head_of : Message → Head
head_of m = record { fields = m.head; length = m.length; expects = m.expects }

-- a whole head, or the first fault of its parts
abbrev pub Judges : Option Fault → Head → Result Message H1Fault → Type 0
Judges None h (Ok m) = head_of m ≡ h
Judges None h (Err Memory) = Unit {0}
Judges None h (Err e) = ⊥
Judges (Some f) h (Ok m) = ⊥
Judges (Some f) h (Err e) = IsFault e f

-- the fields of a request as a processor sees them
abbrev pub request_fields_of : List ℕ → List ℕ → List ℕ → List Field → List Field
request_fields_of method authority path fields =
    field (codes ":method") method ∷ field (codes ":scheme") (codes "http") ∷ field (codes ":authority") authority ∷ field (codes ":path") path
    ∷ without (codes "host" ∷ []) (shown_fields fields)

-- the fault of a response that isn't interim
abbrev pub final_fault : StatusLine → List Field → Option Fault
final_fault l fields = if is_none (stated_length Response l.minor fields) then Some reading.BadLength else None
