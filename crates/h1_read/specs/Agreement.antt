-- What httparse's grammar has, as the model has it; and that both accept the same.
use Rattle.std.specs.Prelude.{ℕ, ◌≡◌, ◌⊎◌, ◌≤◌, List, [], ◌++◌, length, map}
use Rattle.ext_msgs.specs.declared.lists.Field.{Field}
use Rattle.httparse.specs.Grammar.{LineEnd, ReadsSection, NeverHasSection, MayBecomeSection, RequestHead, ReadsRequest, NeverHasRequest, ResponseHead, ReadsResponse, NeverHasResponse, MayBecomeResponse}
use Rattle.httparse.specs.Grammar as grammar
use Rattle.httparse.specs.Spans.{SectionOverflows, RequestOverflows, ResponseOverflows}
use Rattle.http_model.specs.Bytes.{lower, field}
use Rattle.http_model.specs.Reading.{Fault, Whole, Partial, Bad, BadHead, LongHead}
use Rattle.http_model.specs.Lines.{first_line, section}
use Rattle.http_model.specs.Heads.{field_limit, head_lines, RequestLine, request_line, StatusLine, status_line}

-- the name in lower case, and the value without the blanks around it
abbrev pub field_of_line : grammar.Field → Field
field_of_line f = field (lower f.name) (grammar.field_value f)

abbrev pub line_of_request : RequestHead → RequestLine
line_of_request h = record { method = h.method; target = h.target; minor = h.minor }

abbrev pub line_of_response : ResponseHead → StatusLine
line_of_response h = record { status = h.digits; minor = h.minor }

-- Sections

-- these fields, in the grammar
pub record IsSection (bytes : List ℕ) (shown : List Field) (rest : List ℕ) : Type 0 where
  pub fields : List grammar.Field
  pub last : LineEnd
  pub reads : ReadsSection bytes fields last rest
  pub same : map field_of_line fields ≡ shown

-- with at most n fields, and a fault of its own for what is outside the grammar
pub record AgreesOnSections (bad : Fault) (n : ℕ) : Type 0 where
  pub found : (bytes : List ℕ) (fields : List grammar.Field) (last : LineEnd) (rest : List ℕ) → ReadsSection bytes fields last rest
      → length fields ≤ n → section bad n bytes ≡ Whole (map field_of_line fields) rest
  pub whole : (bytes : List ℕ) (shown : List Field) (rest : List ℕ) → section bad n bytes ≡ Whole shown rest → IsSection bytes shown rest
  pub partial : (bytes : List ℕ) → section bad n bytes ≡ Partial → MayBecomeSection bytes
  pub never : (bytes : List ℕ) → section bad n bytes ≡ Bad bad → NeverHasSection bytes
  pub long : (bytes : List ℕ) → section bad n bytes ≡ Bad LongHead → SectionOverflows n bytes

-- Heads: what lacks its first line is never bad

pub record IsRequest (bytes : List ℕ) (line : RequestLine) (shown : List Field) (rest : List ℕ) : Type 0 where
  pub head : RequestHead
  pub reads : ReadsRequest bytes head rest
  pub first : line_of_request head ≡ line
  pub same : map field_of_line head.fields ≡ shown

-- some bytes can follow that make a head
abbrev pub CompletesRequest : List ℕ → Type 0
CompletesRequest bytes = (more : List ℕ) × (h : RequestHead) × ReadsRequest (bytes ++ more) h []

pub record AgreesOnRequests : Type 0 where
  pub found : (bytes : List ℕ) (h : RequestHead) (rest : List ℕ) → ReadsRequest bytes h rest
      → length h.fields ≤ field_limit → head_lines request_line bytes ≡ Whole (line_of_request h, map field_of_line h.fields) rest
  pub whole : (bytes : List ℕ) (line : RequestLine) (shown : List Field) (rest : List ℕ)
      → head_lines request_line bytes ≡ Whole (line, shown) rest → IsRequest bytes line shown rest
  pub partial : (bytes : List ℕ) → head_lines request_line bytes ≡ Partial → (first_line bytes ≡ Partial) ⊎ CompletesRequest bytes
  pub never : (bytes : List ℕ) → head_lines request_line bytes ≡ Bad BadHead → NeverHasRequest bytes
  pub long : (bytes : List ℕ) → head_lines request_line bytes ≡ Bad LongHead → RequestOverflows field_limit bytes

pub record IsResponse (bytes : List ℕ) (line : StatusLine) (shown : List Field) (rest : List ℕ) : Type 0 where
  pub head : ResponseHead
  pub reads : ReadsResponse bytes head rest
  pub first : line_of_response head ≡ line
  pub same : map field_of_line head.fields ≡ shown

pub record AgreesOnResponses : Type 0 where
  pub found : (bytes : List ℕ) (h : ResponseHead) (rest : List ℕ) → ReadsResponse bytes h rest
      → length h.fields ≤ field_limit → head_lines status_line bytes ≡ Whole (line_of_response h, map field_of_line h.fields) rest
  pub whole : (bytes : List ℕ) (line : StatusLine) (shown : List Field) (rest : List ℕ)
      → head_lines status_line bytes ≡ Whole (line, shown) rest → IsResponse bytes line shown rest
  pub partial : (bytes : List ℕ) → head_lines status_line bytes ≡ Partial → (first_line bytes ≡ Partial) ⊎ MayBecomeResponse bytes
  pub never : (bytes : List ℕ) → head_lines status_line bytes ≡ Bad BadHead → NeverHasResponse bytes
  pub long : (bytes : List ℕ) → head_lines status_line bytes ≡ Bad LongHead → ResponseOverflows field_limit bytes
