-- What the bytes so far give of something that is being read.
use Rattle.std.specs.Prelude.{ℕ, ◌≡◌, List, ◌++◌, length, take, drop, if◌then◌else◌, nat_le}

-- why a message can't be read
pub data Fault : Type 0 where
  BadHead : Fault
  LongHead : Fault
  BadLength : Fault
  BadChunk : Fault
  Version : Fault
  Method : Fault
  CutShort : Fault

-- the status of the reply to a request with this fault: RFC 9110 section 15, RFC 6585 section 5
abbrev pub status_of : Fault → ℕ
status_of BadHead = 400
status_of LongHead = 431
status_of BadLength = 400
status_of BadChunk = 400
status_of Version = 505
status_of Method = 501
status_of CutShort = 400

pub data Reading (A : Type 0) : Type 0 where
  Whole : A → List ℕ → Reading A  -- it is there, and these bytes stand behind it
  Partial : Reading A  -- more bytes may make it
  Bad : Fault → Reading A  -- no bytes that follow can

-- one thing, and then what stands behind it
abbrev pub onward : {A B : Type 0} → Reading A → (A → List ℕ → Reading B) → Reading B
onward (Whole a rest) next = next a rest
onward Partial next = Partial
onward (Bad f) next = Bad f

-- within the first so many bytes, or too long
abbrev pub within : {A : Type 0} → ℕ → Fault → List ℕ → Reading A → Reading A
within limit long bytes (Whole a rest) = Whole a (rest ++ drop limit bytes)
within limit long bytes Partial = if nat_le limit (length bytes) then Bad long else Partial
within limit long bytes (Bad f) = Bad f

abbrev pub limited : {A : Type 0} → ℕ → Fault → (List ℕ → Reading A) → List ℕ → Reading A
limited limit long read bytes = within limit long bytes (read (take limit bytes))

-- what was found stays found, and a fault stays a fault, whatever follows
abbrev pub Stays : {A : Type 0} → Reading A → List ℕ → Reading A → Type 0
Stays (Whole a rest) more later = later ≡ Whole a (rest ++ more)
Stays Partial more later = Unit {0}
Stays (Bad f) more later = later ≡ Bad f
