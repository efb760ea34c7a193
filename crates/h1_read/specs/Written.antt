-- What a message is read back as that was written.
use Rattle.std.specs.Prelude.{ℕ, ◌≡◌, ◌<◌, ◌≤◌, ◌^◌, Bool, true, false, not, ◌&&◌, ◌||◌, ◌==◌, List, [], ◌∷◌, ◌++◌, length, map, filter, flat_map, codes, bytes_eq, decimal, nat_lt, if◌then◌else◌}
use Rattle.std.specs.List.{list_all, AllByRecursion}
use Rattle.http_model.specs.Bodies.{Body, body, whole_body}
use Rattle.http_model.specs.Reads.{Original, with_body}
use Rattle.ext_msgs.specs.declared.lists.Field.{Field}
use Rattle.http_model.specs.Bytes.{is_token, is_value_byte, is_one_of, crlf, lower, trim, begins_with, field, value_of, without, owned_names}
use Rattle.http_model.specs.Heads.{Head, is_host, is_status, is_target, is_bare, head_limit, field_limit}
use Rattle.http_model.specs.Wire.{is_written_as_is, field_lines, head_bytes, chunk_bytes, last_bytes}
use Rattle.http_model.specs.declared.types.Direction.{Direction}
use Rattle.http_model.specs.declared.types.Direction.TheVariants.{Request, Response}
use Rattle.http_model.specs.declared.types.Framing.{Framing}
use Rattle.http_model.specs.declared.types.Framing.TheVariants as framing
use Rattle.http_model.specs.declared.types.Length.{Length}
use Rattle.http_model.specs.declared.types.Length.TheVariants as body_length

-- a value as it is given back
abbrev pub given : Field → Field
given f = field f.name (trim f.value)

-- Fields that are written: a token in lower case, and a value on one line

abbrev pub is_on_one_line : List ℕ → Bool
is_on_one_line bytes = list_all (λ b. not (b == 13 || b == 10)) bytes

abbrev pub is_writable : Field → Bool
is_writable f = is_token f.name && bytes_eq (lower f.name) f.name && is_on_one_line f.value

-- it has no control byte
abbrev pub is_readable : Field → Bool
is_readable f = list_all is_value_byte f.value

-- Chunks

-- the data of one chunk
pub record IsPiece (piece : List ℕ) : Type 0 where
  pub some : length piece ≡ 0 → ⊥
  pub fits : length piece < 2 ^ 64

-- Heads

-- a field that isn't of one connection, nor the host
abbrev pub is_other : Field → Bool
is_other f = is_writable f && (not (bytes_eq f.name (codes "host")) && not (is_one_of (owned_names ++ codes "close" ∷ []) f.name))

-- behind the pseudo fields, but for the length
abbrev pub others : List Field → List Field
others head = filter is_written_as_is head

-- no control byte and no space
abbrev pub is_high : List ℕ → Bool
is_high bytes = list_all (nat_lt 32) bytes

abbrev pub method_of : List Field → List ℕ
method_of head = value_of (codes ":method") head

abbrev pub path_of : List Field → List ℕ
path_of head = value_of (codes ":path") head

abbrev pub authority_of : List Field → List ℕ
authority_of head = value_of (codes ":authority") head

abbrev pub status_of : List Field → List ℕ
status_of head = value_of (codes ":status") head

-- the head of a request, and the head of a response, that can be written
pub record IsRequestHead (head : List Field) : Type 0 where
  pub method : is_token (method_of head) ≡ true
  pub path : (begins_with (codes "/") (path_of head) || bytes_eq (path_of head) (codes "*")) ≡ true
  pub high_path : is_high (path_of head) ≡ true
  pub high_authority : is_high (authority_of head) ≡ true
  pub others : list_all is_other (others head) ≡ true

pub record IsResponseHead (head : List Field) : Type 0 where
  pub status : is_status (status_of head) ≡ true
  pub final : begins_with (codes "1") (status_of head) ≡ false
  pub others : list_all is_other (others head) ≡ true

-- a length is a number of 64 bits
abbrev pub Fits : Framing → Type 0
Fits framing.NoField = Unit {0}
Fits (framing.Length n) = n < 2 ^ 64
Fits framing.Chunked = Unit {0}

-- the fields as they are written, behind the first line
abbrev pub framing_fields : Framing → List Field
framing_fields framing.NoField = []
framing_fields (framing.Length n) = field (codes "content-length") (decimal n) ∷ []
framing_fields framing.Chunked = field (codes "transfer-encoding") (codes "chunked") ∷ []

abbrev pub common_fields : List Field → Framing → List Field
common_fields head f = others head ++ (framing_fields f ++ field (codes "connection") (codes "close") ∷ [])

-- the length alone is given back of the framing
abbrev pub given_length : Framing → List Field
given_length framing.NoField = []
given_length (framing.Length n) = field (codes "content-length") (decimal n) ∷ []
given_length framing.Chunked = []

abbrev pub request_length : Framing → Length
request_length framing.NoField = body_length.NoBody
request_length (framing.Length n) = body_length.Known n
request_length framing.Chunked = body_length.Chunked

abbrev pub response_length : Framing → Length
response_length framing.NoField = body_length.Close
response_length (framing.Length n) = body_length.Known n
response_length framing.Chunked = body_length.Chunked

-- as a reader gives it back: `http` is the scheme, and the length stands last
abbrev pub given_request : List Field → Framing → Head
given_request head f = record {
  fields = field (codes ":method") (method_of head) ∷ field (codes ":scheme") (codes "http")
      ∷ field (codes ":authority") (authority_of head) ∷ field (codes ":path") (path_of head)
      ∷ (map given (others head) ++ given_length f);
  length = request_length f;
  expects = false;
}

abbrev pub given_response : Bool → List Field → Framing → Head
given_response to_head head f = record {
  fields = field (codes ":status") (status_of head) ∷ (map given (others head) ++ given_length f);
  length = if is_bare to_head (status_of head) then body_length.NoBody else response_length f;
  expects = false;
}

-- the fields behind the first line of a request
abbrev pub request_fields : List Field → Framing → List Field
request_fields head f = field (codes "host") (authority_of head) ∷ common_fields head f

-- a length that a reader accepts
abbrev pub IsLength : Framing → Type 0
IsLength framing.NoField = Unit {0}
IsLength (framing.Length n) = n < 2 ^ 63
IsLength framing.Chunked = Unit {0}

-- what a reader accepts of them
pub record IsAcceptedRequest (head : List Field) (f : Framing) : Type 0 where
  pub target : is_target (path_of head) ≡ true
  pub no_tunnel : bytes_eq (method_of head) (codes "CONNECT") ≡ false
  pub asterisk : (begins_with (codes "/") (path_of head) || bytes_eq (method_of head) (codes "OPTIONS")) ≡ true
  pub host : is_host (authority_of head) ≡ true
  pub values : list_all is_readable (others head) ≡ true
  pub length_fits : IsLength f
  pub few : length (request_fields head f) ≤ field_limit
  pub short : length (head_bytes Request head f) ≤ head_limit

pub record IsAcceptedResponse (head : List Field) (f : Framing) : Type 0 where
  pub values : list_all is_readable (others head) ≡ true
  pub length_fits : IsLength f
  pub few : length (common_fields head f) ≤ field_limit
  pub short : length (head_bytes Response head f) ≤ head_limit

-- Messages

-- a message as it is written: its body goes in these pieces
pub record Message : Type 0 where
  pub head : List Field
  pub framing : Framing
  pub pieces : List (List ℕ)
  pub trailers : List Field

abbrev pub content_of : List (List ℕ) → List ℕ
content_of pieces = flat_map (λ p. p) pieces

abbrev pub body_bytes : Framing → List (List ℕ) → List Field → List ℕ
body_bytes framing.NoField pieces trailers = content_of pieces
body_bytes (framing.Length n) pieces trailers = content_of pieces
body_bytes framing.Chunked pieces trailers = flat_map chunk_bytes pieces ++ last_bytes trailers

abbrev pub message_bytes : Direction → Message → List ℕ
message_bytes d m = head_bytes d m.head m.framing ++ body_bytes m.framing m.pieces m.trailers

abbrev pub given_head : Direction → Bool → List Field → Framing → Head
given_head Request to_head head f = given_request head f
given_head Response to_head head f = given_response to_head head f

-- the body and the trailers fit the framing: none where there can be no body, and no body that only an end tells
abbrev pub BodyFits : Length → Message → Type 0
BodyFits body_length.NoBody m = body_bytes m.framing m.pieces m.trailers ≡ []
BodyFits (body_length.Known n) m = length (content_of m.pieces) ≡ n
BodyFits body_length.Chunked m = AllByRecursion IsPiece m.pieces × (list_all is_writable m.trailers ≡ true)
BodyFits body_length.Close m = m.pieces ≡ []

abbrev pub IsHead : Direction → List Field → Type 0
IsHead Request head = IsRequestHead head
IsHead Response head = IsResponseHead head

-- what the writers write
pub record IsWritten (d : Direction) (to_head : Bool) (m : Message) : Type 0 where
  pub head : IsHead d m.head
  pub framing : Fits m.framing
  pub body : BodyFits (given_head d to_head m.head m.framing).length m

-- the body as a reader gives it back: its trailers without owned names
abbrev pub given_body : Length → Bool → Message → Body
given_body body_length.NoBody ended m = whole_body [] [] []
given_body (body_length.Known n) ended m = whole_body (content_of m.pieces) [] []
given_body body_length.Chunked ended m = whole_body (content_of m.pieces) (without owned_names (map given m.trailers)) []
given_body body_length.Close ended m = body body_length.Close ended []

abbrev pub given_message : Direction → Bool → Message → Bool → Original
given_message d to_head m ended =
    with_body ended (given_head d to_head m.head m.framing) (given_body (given_head d to_head m.head m.framing).length ended m)

abbrev pub IsAcceptedHead : Direction → List Field → Framing → Type 0
IsAcceptedHead Request head f = IsAcceptedRequest head f
IsAcceptedHead Response head f = IsAcceptedResponse head f

pub record IsAccepted (d : Direction) (m : Message) : Type 0 where
  pub head : IsAcceptedHead d m.head m.framing
  pub values : list_all is_readable m.trailers ≡ true
  pub few : length m.trailers ≤ field_limit
  pub short : length (field_lines m.trailers ++ crlf) ≤ head_limit
