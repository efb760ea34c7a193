-- The first line and the fields of a head, as their readers answer.
use Rattle.std.specs.Prelude.{ℕ, ◌≡◌, ◌≤◌, List, length, drop}
use Rattle.ext_msgs.specs.declared.lists.Field.{Field}
use Rattle.http_model.specs.Reading.{Reading, BadHead, LongHead, limited}
use Rattle.http_model.specs.Reading as reading
use Rattle.http_model.specs.Heads.{head_limit, head_lines, RequestLine, request_line, StatusLine, status_line}
use Rattle.h1_read.specs.declared.head.RequestParts.{RequestParts}
use Rattle.h1_read.specs.declared.head.RequestRead.{RequestRead}
use Rattle.h1_read.specs.declared.head.RequestRead.TheVariants as requests
use Rattle.h1_read.specs.declared.head.ResponseParts.{ResponseParts}
use Rattle.h1_read.specs.declared.head.ResponseRead.{ResponseRead}
use Rattle.h1_read.specs.declared.head.ResponseRead.TheVariants as responses

abbrev pub request_lines : List ℕ → Reading (RequestLine × List Field)
request_lines bytes = limited head_limit LongHead (head_lines request_line) bytes

abbrev pub response_lines : List ℕ → Reading (StatusLine × List Field)
response_lines bytes = limited head_limit LongHead (head_lines status_line) bytes

abbrev pub line_of_parts : RequestParts → RequestLine
line_of_parts p = record { method = p.method; target = p.target; minor = p.minor }

-- a head of these parts in the first so many bytes
pub record IsWholeRequest (bytes : List ℕ) (p : RequestParts) (used : ℕ) : Type 0 where
  pub in_range : used ≤ length bytes
  pub reads : request_lines bytes ≡ reading.Whole (line_of_parts p, p.fields.items) (drop used bytes)

abbrev pub IsRequestRead : List ℕ → RequestRead → Type 0
IsRequestRead bytes (requests.Whole p used) = IsWholeRequest bytes p used
IsRequestRead bytes requests.Partial = request_lines bytes ≡ reading.Partial
IsRequestRead bytes requests.Bad = request_lines bytes ≡ reading.Bad BadHead
IsRequestRead bytes requests.Long = request_lines bytes ≡ reading.Bad LongHead

abbrev pub status_of_parts : ResponseParts → StatusLine
status_of_parts p = record { status = p.status; minor = p.minor }

pub record IsWholeResponse (bytes : List ℕ) (p : ResponseParts) (used : ℕ) : Type 0 where
  pub in_range : used ≤ length bytes
  pub reads : response_lines bytes ≡ reading.Whole (status_of_parts p, p.fields.items) (drop used bytes)

abbrev pub IsResponseRead : List ℕ → ResponseRead → Type 0
IsResponseRead bytes (responses.Whole p used) = IsWholeResponse bytes p used
IsResponseRead bytes responses.Partial = response_lines bytes ≡ reading.Partial
IsResponseRead bytes responses.Bad = response_lines bytes ≡ reading.Bad BadHead
IsResponseRead bytes responses.Long = response_lines bytes ≡ reading.Bad LongHead
