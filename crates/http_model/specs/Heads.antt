-- The head of a message: RFC 9112 sections 2 to 6, RFC 9110 sections 5 and 7.
use Rattle.std.specs.Prelude.{ℕ, zero, suc, ◌^◌, Bool, true, false, not, ◌&&◌, ◌||◌, List, [], ◌∷◌, ◌++◌, length, take, drop, Option, Some, None, if◌then◌else◌, ◌==◌, nat_lt, is_none, codes, map, filter, flat_map, bytes_eq}
use Rattle.std.specs.List.{list_any, list_all}
use Rattle.std.specs.Str.{is_utf8}
use Rattle.std.specs.Char.{is_ascii, is_ascii_digit}
use Rattle.ext_msgs.specs.declared.lists.Field.{Field}
use Rattle.http_model.specs.Bytes.{is_empty, is_token, is_target_byte, is_value_byte, is_visible, lower, begins_with, is_one_of, split_at, list_items, decimal_value, field, is_named, values_of, value_of, without, owned_names}
use Rattle.http_model.specs.Reading.{Reading, Whole, Partial, Bad, Fault, BadHead, LongHead, BadLength, Version, Method, onward, limited}
use Rattle.http_model.specs.Lines.{first_line, without_cr, section}
use Rattle.http_model.specs.declared.types.Direction.{Direction}
use Rattle.http_model.specs.declared.types.Direction.TheVariants.{Request, Response}
use Rattle.http_model.specs.declared.types.Length.{Length}
use Rattle.http_model.specs.declared.types.Length.TheVariants.{NoBody, Known, Chunked, Close}

-- A head: a first line, and a section of fields

-- at most 32,768 bytes, from its own first byte on, and 100 fields
abbrev pub head_limit : ℕ
head_limit = 32768

abbrev pub field_limit : ℕ
field_limit = 100

abbrev pub fields_behind : {A : Type 0} → Option A → List ℕ → Reading (A × List Field)
fields_behind None rest = Bad BadHead
fields_behind (Some first) rest = onward (section BadHead field_limit rest) (λ fields more. Whole (first, fields) more)

abbrev pub head_lines : {A : Type 0} → (List ℕ → Option A) → List ℕ → Reading (A × List Field)
head_lines parse bytes = onward (first_line bytes) (λ l rest. fields_behind (parse (without_cr l)) rest)

-- request-line = method SP request-target SP HTTP-version: section 3
pub record RequestLine : Type 0 where
  pub method : List ℕ
  pub target : List ℕ
  pub minor : ℕ

-- HTTP/1.0 or HTTP/1.1
abbrev pub minor_of : List ℕ → Option ℕ
minor_of version =
    if bytes_eq version (codes "HTTP/1.1") then Some 1 else (if bytes_eq version (codes "HTTP/1.0") then Some 0 else None)

-- a target of more than ASCII is UTF-8
abbrev pub is_target : List ℕ → Bool
is_target bytes = not (is_empty bytes) && list_all is_target_byte bytes && (list_all is_ascii bytes || is_utf8 bytes)

abbrev pub request_line_of : List ℕ → List ℕ → Option ℕ → Option RequestLine
request_line_of method target None = None
request_line_of method target (Some minor) =
    if is_token method && is_target target then Some (record { method = method; target = target; minor = minor }) else None

unfoldable pub request_line : List ℕ → Option RequestLine
request_line l =
    let words = split_at 32 l in
    let others = split_at 32 words.1 in
    request_line_of words.0 others.0 (minor_of others.1)

-- status-line = HTTP-version SP status-code [ SP reason-phrase ]: section 4
pub record StatusLine : Type 0 where
  pub status : List ℕ
  pub minor : ℕ

abbrev pub is_reason : List ℕ → Bool
is_reason [] = true
is_reason (b ∷ phrase) = b == 32 && list_all is_value_byte phrase

abbrev pub is_status : List ℕ → Bool
is_status digits = length digits == 3 && list_all is_ascii_digit digits

abbrev pub status_line_of : Option ℕ → List ℕ → Option StatusLine
status_line_of None rest = None
status_line_of (Some minor) rest =
    if is_status (take 3 rest) && is_reason (drop 3 rest) then Some (record { status = take 3 rest; minor = minor }) else None

unfoldable pub status_line : List ℕ → Option StatusLine
status_line l = let words = split_at 32 l in status_line_of (minor_of words.0) words.1

-- The length of a body: RFC 9112 section 6.3

-- decimal, and at most 2^63 - 1
abbrev pub is_length : List ℕ → Bool
is_length value = not (is_empty value) && list_all is_ascii_digit value && nat_lt (decimal_value value) (2 ^ 63)

abbrev pub unstated_length : Direction → Length
unstated_length Request = NoBody
unstated_length Response = Close

-- `content-length` fields of equal number count as one
abbrev pub length_by : List ℕ → List (List ℕ) → Option Length
length_by value others =
    if is_length value && list_all (λ v. is_length v && decimal_value v == decimal_value value) others
    then Some (Known (decimal_value value)) else None

-- the one transfer coding is `chunked`, in any case; HTTP/1.0 has none (section 6.1)
abbrev pub length_by_coding : ℕ → List ℕ → Option Length
length_by_coding minor value = if bytes_eq (lower value) (codes "chunked") && minor == 1 then Some Chunked else None

-- by the values of `transfer-encoding` and those of `content-length`; not both, and no other coding
abbrev pub length_of : Direction → ℕ → List (List ℕ) → List (List ℕ) → Option Length
length_of d minor [] [] = Some (unstated_length d)
length_of d minor [] (value ∷ others) = length_by value others
length_of d minor (value ∷ []) [] = length_by_coding minor value
length_of d minor _ _ = None

abbrev pub stated_length : Direction → ℕ → List Field → Option Length
stated_length d minor fields =
    length_of d minor (values_of (codes "transfer-encoding") fields) (values_of (codes "content-length") fields)

-- the head alone says that there is no body
abbrev pub is_bodiless : Length → Bool
is_bodiless NoBody = true
is_bodiless (Known n) = n == 0
is_bodiless Chunked = false
is_bodiless Close = false

-- The fields that are shown: those of this connection stay behind, RFC 9110 section 7.6.1

abbrev pub connection_options : List Field → List (List ℕ)
connection_options fields = flat_map (λ value. map lower (list_items value)) (values_of (codes "connection") fields)

abbrev pub is_shown : List (List ℕ) → Field → Bool
is_shown hidden f = is_named (codes "content-length") f || not (is_one_of hidden f.name)

-- of several `content-length` the first
abbrev pub one_length : List Field → List Field
one_length [] = []
one_length (f ∷ fields) =
    f ∷ (if is_named (codes "content-length") f then without (codes "content-length" ∷ []) fields else one_length fields)

unfoldable pub shown_fields : List Field → List Field
shown_fields fields = one_length (filter (is_shown (owned_names ++ connection_options fields)) fields)

-- Requests

-- a path and its query; an empty path counts as `/`, and of OPTIONS without a query as `*`: RFC 9112 section 3.2
abbrev pub path_behind : List ℕ → List ℕ → Option (List ℕ)
path_behind method [] = Some (if bytes_eq method (codes "OPTIONS") then codes "*" else codes "/")
path_behind method (b ∷ rest) =
    if b == 47 then Some (b ∷ rest) else (if b == 63 then Some (codes "/" ++ b ∷ rest) else None)

abbrev pub is_authority_byte : ℕ → Bool
is_authority_byte b = is_visible b && not (b == 47 || b == 63 || b == 35)

-- the bytes at the front that pass, and the others
abbrev pub span : (ℕ → Bool) → List ℕ → List ℕ × List ℕ
span test [] = ([], [])
span test (b ∷ bytes) = let parts = span test bytes in if test b then (b ∷ parts.0, parts.1) else ([], b ∷ bytes)

-- authority and path
abbrev pub with_authority : List ℕ → Option (List ℕ) → Option (List ℕ × List ℕ)
with_authority authority None = None
with_authority authority (Some path) = if is_empty authority then None else Some (authority, path)

-- absolute-form, origin-form, and asterisk-form with OPTIONS alone: section 3.2
unfoldable pub target_parts : List ℕ → List ℕ → List ℕ → Option (List ℕ × List ℕ)
target_parts method host target =
    let behind = span is_authority_byte (drop 7 target) in
    if begins_with (codes "http://") (lower target) then with_authority behind.0 (path_behind method behind.1)
    else if begins_with (codes "/") target then Some (host, target)
    else if bytes_eq target (codes "*") && bytes_eq method (codes "OPTIONS") then Some (host, target)
    else None

abbrev pub is_host : List ℕ → Bool
is_host value = not (is_empty value) && list_all is_visible value

-- exactly one: section 3.2
abbrev pub has_one_host : List (List ℕ) → Bool
has_one_host (value ∷ []) = is_host value
has_one_host _ = false

abbrev pub request_parts : RequestLine → List Field → Option (List ℕ × List ℕ)
request_parts l fields = target_parts l.method (value_of (codes "host") fields) l.target

-- the first that applies
abbrev pub first_fault : List (Bool × Fault) → Option Fault
first_fault [] = None
first_fault (test ∷ tests) = if test.0 then Some test.1 else first_fault tests

unfoldable pub request_fault : RequestLine → List Field → Option Fault
request_fault l fields = first_fault (
    (l.minor == 0, Version)
    ∷ (bytes_eq l.method (codes "CONNECT"), Method)
    ∷ (not (has_one_host (values_of (codes "host") fields)), BadHead)
    ∷ (is_none (request_parts l fields), BadHead)
    ∷ (is_none (stated_length Request l.minor fields), BadLength)
    ∷ [])

-- What a head gives

pub record Head : Type 0 where
  pub fields : List Field  -- as a processor sees them
  pub length : Length
  pub expects : Bool  -- an interim 100 is owed

abbrev pub or_none : Option Length → Length
or_none None = NoBody
or_none (Some n) = n

abbrev pub first_part : Option (List ℕ × List ℕ) → List ℕ
first_part None = []
first_part (Some parts) = parts.0

abbrev pub second_part : Option (List ℕ × List ℕ) → List ℕ
second_part None = []
second_part (Some parts) = parts.1

-- a request with a body that expects `100-continue`, in any case: RFC 9110 section 10.1.1
abbrev pub is_owed_interim : List Field → Length → Bool
is_owed_interim fields n =
    not (is_bodiless n) && list_any (λ value. bytes_eq (lower value) (codes "100-continue")) (values_of (codes "expect") fields)

unfoldable pub request_head : RequestLine → List Field → Head
request_head l fields =
    let n : Length = or_none (stated_length Request l.minor fields) in
    record {
      fields = field (codes ":method") l.method ∷ field (codes ":scheme") (codes "http")
          ∷ field (codes ":authority") (first_part (request_parts l fields)) ∷ field (codes ":path") (second_part (request_parts l fields))
          ∷ without (codes "host" ∷ []) (shown_fields fields);
      length = n;
      expects = is_owed_interim fields n;
    }

-- a response to HEAD, of 204 or of 304 has no body
abbrev pub is_bare : Bool → List ℕ → Bool
is_bare to_head status = to_head || is_one_of (codes "204" ∷ codes "304" ∷ []) status

unfoldable pub response_head : Bool → StatusLine → List Field → Head
response_head to_head l fields = record {
  fields = field (codes ":status") l.status ∷ shown_fields fields;
  length = if is_bare to_head l.status then NoBody else or_none (stated_length Response l.minor fields);
  expects = false;
}

abbrev pub unless : {A : Type 0} → Option Fault → A → List ℕ → Reading A
unless None a rest = Whole a rest
unless (Some f) a rest = Bad f

abbrev pub request_of : RequestLine × List Field → List ℕ → Reading Head
request_of h rest = unless (request_fault h.0 h.1) (request_head h.0 h.1) rest

unfoldable pub request_message : List ℕ → Reading Head
request_message bytes = onward (limited head_limit LongHead (head_lines request_line) bytes) request_of

-- an interim response comes off the front, whatever its fields say; 101 is bad

abbrev pub response_lines : List ℕ → Reading (StatusLine × List Field)
response_lines bytes = limited head_limit LongHead (head_lines status_line) bytes

abbrev pub is_interim : StatusLine → Bool
is_interim l = begins_with (codes "1") l.status

abbrev pub final_of : Bool → StatusLine × List Field → List ℕ → Reading Head
final_of to_head h rest =
    unless (if is_none (stated_length Response h.0.minor h.1) then Some BadLength else None) (response_head to_head h.0 h.1) rest

-- with at most so many responses
unfoldable pub response_message_in : ℕ → Bool → List ℕ → Reading Head
response_message_in zero to_head bytes = Partial
response_message_in (suc n) to_head bytes = onward (response_lines bytes) (λ h rest.
    elim (is_interim h.0) [
      | true ↦ elim (bytes_eq h.0.status (codes "101")) [ true ↦ Bad BadHead | false ↦ response_message_in n to_head rest ]
      | false ↦ final_of to_head h rest
    ])

unfoldable pub response_message : Bool → List ℕ → Reading Head
response_message to_head bytes = response_message_in (suc (length bytes)) to_head bytes

-- the head of a message; to_head is true of the response to a HEAD request
abbrev pub message_head : Direction → Bool → List ℕ → Reading Head
message_head Request to_head bytes = request_message bytes
message_head Response to_head bytes = response_message to_head bytes

-- The bytes of an unfinished head: what stands behind the interim responses

abbrev pub is_dropped : StatusLine → Bool
is_dropped l = is_interim l && not (bytes_eq l.status (codes "101"))

abbrev pub or_behind : List ℕ → Reading (StatusLine × List Field) → (List ℕ → List ℕ) → List ℕ
or_behind bytes (Whole h rest) next = elim (is_dropped h.0) [ true ↦ next rest | false ↦ bytes ]
or_behind bytes Partial next = bytes
or_behind bytes (Bad f) next = bytes

unfoldable pub behind_interims : ℕ → List ℕ → List ℕ
behind_interims zero bytes = bytes
behind_interims (suc n) bytes = or_behind bytes (response_lines bytes) (behind_interims n)

abbrev pub head_so_far : Direction → List ℕ → List ℕ
head_so_far Request bytes = bytes
head_so_far Response bytes = behind_interims (length bytes) bytes
