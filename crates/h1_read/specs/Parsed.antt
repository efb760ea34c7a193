-- What `httparse` answers of bytes in which no field too many begins, as the model reads them.
use Rattle.std.specs.Prelude.{ℕ, ◌≡◌, ◌+◌, ◌/◌, ◌%◌, List, [], ◌∷◌, drop, map, take}
use Rattle.ext_msgs.specs.declared.lists.Field.{Field}
use Rattle.httparse.specs.declared.spans.HeaderSpan.{HeaderSpan}
use Rattle.httparse.specs.declared.spans.RequestSpans.{RequestSpans}
use Rattle.httparse.specs.declared.spans.ResponseSpans.{ResponseSpans}
use Rattle.httparse.specs.Spans.{span_bytes, IsSectionWithin, IsRequestWithin, IsResponseWithin}
use Rattle.http_model.specs.Bytes.{lower, field}
use Rattle.http_model.specs.Reading.{BadHead, BadChunk}
use Rattle.http_model.specs.Reading as reading
use Rattle.http_model.specs.Lines.{section}
use Rattle.http_model.specs.Heads.{field_limit, head_lines, RequestLine, request_line, StatusLine, status_line}
use Rattle.h1_read.specs.declared.parse.SectionParse.{SectionParse}
use Rattle.h1_read.specs.declared.parse.SectionParse.TheVariants as sections
use Rattle.h1_read.specs.declared.parse.RequestParse.{RequestParse}
use Rattle.h1_read.specs.declared.parse.RequestParse.TheVariants as requests
use Rattle.h1_read.specs.declared.parse.ResponseParse.{ResponseParse}
use Rattle.h1_read.specs.declared.parse.ResponseParse.TheVariants as responses

-- the field that the spans cover
abbrev pub span_field : List ℕ → HeaderSpan → Field
span_field bytes h = field (lower (span_bytes bytes h.name)) (span_bytes bytes h.value)

abbrev pub span_fields : List ℕ → List HeaderSpan → ℕ → List Field
span_fields bytes spans count = map (span_field bytes) (take count spans)

pub record IsSectionFound (bytes : List ℕ) (spans : List HeaderSpan) (len count : ℕ) : Type 0 where
  pub within : IsSectionWithin bytes spans len count
  pub reads : section BadChunk field_limit bytes ≡ reading.Whole (span_fields bytes spans count) (drop len bytes)

abbrev pub IsSectionParse : List ℕ → List HeaderSpan → SectionParse → Type 0
IsSectionParse bytes spans (sections.Whole len count) = IsSectionFound bytes spans len count
IsSectionParse bytes spans sections.Partial = section BadChunk field_limit bytes ≡ reading.Partial
IsSectionParse bytes spans sections.Bad = section BadChunk field_limit bytes ≡ reading.Bad BadChunk

-- the request line that the spans cover
abbrev pub span_request : List ℕ → RequestSpans → RequestLine
span_request bytes r = record { method = span_bytes bytes r.method; target = span_bytes bytes r.path; minor = r.version }

pub record IsRequestFound (bytes : List ℕ) (spans : List HeaderSpan) (r : RequestSpans) : Type 0 where
  pub within : IsRequestWithin bytes spans r
  pub reads : head_lines request_line bytes ≡ reading.Whole (span_request bytes r, span_fields bytes spans r.headers) (drop r.len bytes)

abbrev pub IsRequestParse : List ℕ → List HeaderSpan → RequestParse → Type 0
IsRequestParse bytes spans (requests.Whole r) = IsRequestFound bytes spans r
IsRequestParse bytes spans requests.Partial = head_lines request_line bytes ≡ reading.Partial
IsRequestParse bytes spans requests.Bad = head_lines request_line bytes ≡ reading.Bad BadHead

-- the three digits of a number below 1,000
abbrev pub digits_of : ℕ → List ℕ
digits_of n = (48 + n / 100) ∷ (48 + n / 10 % 10) ∷ (48 + n % 10) ∷ []

abbrev pub span_response : ResponseSpans → StatusLine
span_response r = record { status = digits_of r.code; minor = r.version }

pub record IsResponseFound (bytes : List ℕ) (spans : List HeaderSpan) (r : ResponseSpans) : Type 0 where
  pub within : IsResponseWithin bytes spans r
  pub reads : head_lines status_line bytes ≡ reading.Whole (span_response r, span_fields bytes spans r.headers) (drop r.len bytes)

abbrev pub IsResponseParse : List ℕ → List HeaderSpan → ResponseParse → Type 0
IsResponseParse bytes spans (responses.Whole r) = IsResponseFound bytes spans r
IsResponseParse bytes spans responses.Partial = head_lines status_line bytes ≡ reading.Partial
IsResponseParse bytes spans responses.Bad = head_lines status_line bytes ≡ reading.Bad BadHead
