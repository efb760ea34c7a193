-- How a message is written: RFC 9112 sections 3 to 7.
use Rattle.std.specs.Prelude.{ℕ, zero, suc, ◌+◌, ◌/◌, ◌%◌, Bool, true, false, not, ◌||◌, List, [], ◌∷◌, ◌++◌, length, if◌then◌else◌, nat_lt, ◌==◌, codes, filter, flat_map, decimal}
use Rattle.ext_msgs.specs.declared.lists.Field.{Field}
use Rattle.http_model.specs.Bytes.{crlf, begins_with, decimal_value, field, is_named, value_of}
use Rattle.http_model.specs.declared.types.Direction.{Direction}
use Rattle.http_model.specs.declared.types.Direction.TheVariants.{Request, Response}
use Rattle.http_model.specs.declared.types.Framing.{Framing}
use Rattle.http_model.specs.declared.types.Framing.TheVariants.{NoField, Length, Chunked}

-- Heads

-- the phrases that the proxy writes: RFC 9110 section 15, RFC 6585
abbrev pub reasons : List (ℕ × List ℕ)
reasons =
    (200, codes "OK") ∷ (201, codes "Created") ∷ (202, codes "Accepted") ∷ (204, codes "No Content")
    ∷ (206, codes "Partial Content") ∷ (301, codes "Moved Permanently") ∷ (302, codes "Found") ∷ (303, codes "See Other")
    ∷ (304, codes "Not Modified") ∷ (307, codes "Temporary Redirect") ∷ (308, codes "Permanent Redirect")
    ∷ (400, codes "Bad Request") ∷ (401, codes "Unauthorized") ∷ (403, codes "Forbidden") ∷ (404, codes "Not Found")
    ∷ (405, codes "Method Not Allowed") ∷ (409, codes "Conflict") ∷ (412, codes "Precondition Failed")
    ∷ (413, codes "Content Too Large") ∷ (429, codes "Too Many Requests") ∷ (431, codes "Request Header Fields Too Large")
    ∷ (500, codes "Internal Server Error") ∷ (501, codes "Not Implemented") ∷ (502, codes "Bad Gateway")
    ∷ (503, codes "Service Unavailable") ∷ (504, codes "Gateway Timeout") ∷ (505, codes "HTTP Version Not Supported") ∷ []

abbrev pub reason_in : ℕ → List (ℕ × List ℕ) → List ℕ
reason_in code [] = []
reason_in code (r ∷ more) = elim (r.0 == code) [ true ↦ r.1 | false ↦ reason_in code more ]

-- empty for a status that isn't listed
abbrev pub reason : ℕ → List ℕ
reason code = reason_in code reasons

abbrev pub field_line : List ℕ → List ℕ → List ℕ
field_line name value = name ++ codes ": " ++ value ++ crlf

abbrev pub field_lines : List Field → List ℕ
field_lines fields = flat_map (λ (f : Field). field_line f.name f.value) fields

-- the first line, and `host` in a request
abbrev pub first_lines : Direction → List Field → List ℕ
first_lines Request head =
    value_of (codes ":method") head ++ codes " " ++ value_of (codes ":path") head ++ codes " HTTP/1.1\r\n"
    ++ field_line (codes "host") (value_of (codes ":authority") head)
first_lines Response head =
    codes "HTTP/1.1 " ++ value_of (codes ":status") head ++ codes " " ++ reason (decimal_value (value_of (codes ":status") head)) ++ crlf

-- the framing is written anew
abbrev pub is_written_as_is : Field → Bool
is_written_as_is f = not (begins_with (codes ":") f.name || is_named (codes "content-length") f)

abbrev pub framing_field : Framing → List ℕ
framing_field NoField = []
framing_field (Length n) = field_line (codes "content-length") (decimal n)
framing_field Chunked = field_line (codes "transfer-encoding") (codes "chunked")

unfoldable pub head_bytes : Direction → List Field → Framing → List ℕ
head_bytes d head framing =
    first_lines d head ++ field_lines (filter is_written_as_is head) ++ framing_field framing
    ++ field_line (codes "connection") (codes "close") ++ crlf

-- Chunks: RFC 9112 section 7.1

abbrev pub hex_digit : ℕ → ℕ
hex_digit n = if nat_lt n 10 then 48 + n else 87 + n

-- the digits of n, before these
abbrev pub hex_onto : ℕ → ℕ → List ℕ → List ℕ
hex_onto zero n digits = digits
hex_onto (suc k) n digits = elim (n / 16 == 0) [
  | true ↦ hex_digit n ∷ digits
  | false ↦ hex_onto k (n / 16) (hex_digit (n % 16) ∷ digits)
]

-- lower-case hexadecimal without leading zeros
unfoldable pub hex : ℕ → List ℕ
hex n = hex_onto (suc n) n []

unfoldable pub chunk_bytes : List ℕ → List ℕ
chunk_bytes piece = hex (length piece) ++ crlf ++ piece ++ crlf

unfoldable pub last_bytes : List Field → List ℕ
last_bytes trailers = codes "0\r\n" ++ field_lines trailers ++ crlf

-- Replies of the proxy's own

-- the interim response: RFC 9110 section 15.2.1
unfoldable pub interim : Bool → List ℕ
interim owed = if owed then codes "HTTP/1.1 100 Continue\r\n\r\n" else []

unfoldable pub local_reply : ℕ → List ℕ
local_reply code = head_bytes Response (field (codes ":status") (decimal code) ∷ []) (Length 0)

-- a head with this status, and a body; 204 and 304 have neither length nor body, and HEAD has no body
unfoldable pub reply : Bool → ℕ → List Field → List ℕ → List ℕ
reply to_head code head content =
    if code == 204 || code == 304 then head_bytes Response head NoField
    else head_bytes Response head (Length (length content)) ++ (if to_head then [] else content)

-- An `unfolding` line that names this opens the writer, so that examples compute.
unfoldable pub write_rules : Unit {0}
unfolding head_bytes hex chunk_bytes last_bytes interim local_reply reply
write_rules = tt
