-- Words on bytes and on fields.
use Rattle.std.specs.Prelude.{ℕ, ◌+◌, ◌-◌, ◌*◌, ◌≡◌, Bool, true, false, not, ◌&&◌, ◌||◌, List, [], ◌∷◌, ◌++◌, Some, None, if◌then◌else◌, ◌==◌, nat_lt, nat_le, codes, map, filter, filter_map, fold, bytes_eq}
use Rattle.std.specs.List.{list_any, list_all}
use Rattle.std.specs.Char.{is_ascii_alphanumeric, is_ascii_hexdigit}
use Rattle.ext_msgs.specs.declared.lists.Field.{Field}

-- Lists

abbrev pub is_empty : {A : Type 0} → List A → Bool
is_empty [] = true
is_empty (x ∷ xs) = false

-- ys begins with xs
pub record IsPrefix {A : Type 0} (xs ys : List A) : Type 0 where
  pub rest : List A
  pub whole : xs ++ rest ≡ ys

-- Bytes

abbrev pub crlf : List ℕ
crlf = 13 ∷ 10 ∷ []

-- CR or LF
abbrev pub is_line_byte : ℕ → Bool
is_line_byte b = b == 13 || b == 10

-- SP or HTAB: RFC 9110 section 5.6.3
abbrev pub is_blank : ℕ → Bool
is_blank b = b == 32 || b == 9

-- tchar: RFC 9110 section 5.6.2
abbrev pub is_token_byte : ℕ → Bool
is_token_byte b = is_ascii_alphanumeric b || list_any (λ c. c == b) (codes "!#$%&'*+-.^_`|~")

-- a byte of a field value or of a reason phrase: no control byte but HTAB
abbrev pub is_value_byte : ℕ → Bool
is_value_byte b = b == 9 || (nat_le 32 b && not (b == 127))

-- a byte of a request target: no control byte and no space
abbrev pub is_target_byte : ℕ → Bool
is_target_byte b = nat_lt 32 b && not (b == 127)

-- 0x21 to 0x7e
abbrev pub is_visible : ℕ → Bool
is_visible b = nat_le 33 b && nat_le b 126

abbrev pub is_token : List ℕ → Bool
is_token bytes = not (is_empty bytes) && list_all is_token_byte bytes

abbrev pub lower_byte : ℕ → ℕ
lower_byte b = if nat_le 65 b && nat_le b 90 then b + 32 else b

abbrev pub lower : List ℕ → List ℕ
lower bytes = map lower_byte bytes

abbrev pub begins_with : List ℕ → List ℕ → Bool
begins_with [] bytes = true
begins_with (x ∷ xs) [] = false
begins_with (x ∷ xs) (y ∷ ys) = x == y && begins_with xs ys

abbrev pub is_one_of : List (List ℕ) → List ℕ → Bool
is_one_of names name = list_any (bytes_eq name) names

-- without the blanks at both ends

abbrev pub trim_start : List ℕ → List ℕ
trim_start [] = []
trim_start (b ∷ bytes) = if is_blank b then trim_start bytes else b ∷ bytes

abbrev pub trim_end : List ℕ → List ℕ
trim_end [] = []
trim_end (b ∷ bytes) = let rest = trim_end bytes in if is_blank b && is_empty rest then [] else b ∷ rest

abbrev pub trim : List ℕ → List ℕ
trim bytes = trim_end (trim_start bytes)

-- what stands before and behind the first such byte
abbrev pub split_at : ℕ → List ℕ → List ℕ × List ℕ
split_at c [] = ([], [])
split_at c (b ∷ bytes) = let parts = split_at c bytes in if b == c then ([], bytes) else (b ∷ parts.0, parts.1)

-- the items of a list with commas: RFC 9110 section 5.6.1

abbrev pub with_first : ℕ → List (List ℕ) → List (List ℕ)
with_first b [] = (b ∷ []) ∷ []
with_first b (item ∷ items) = (b ∷ item) ∷ items

abbrev pub comma_parts : List ℕ → List (List ℕ)
comma_parts [] = [] ∷ []
comma_parts (b ∷ bytes) = if b == 44 then [] ∷ comma_parts bytes else with_first b (comma_parts bytes)

abbrev pub list_items : List ℕ → List (List ℕ)
list_items value = map trim (comma_parts value)

-- numbers

abbrev pub decimal_value : List ℕ → ℕ
decimal_value digits = fold (λ n d. 10 * n + (d - 48)) 0 digits

abbrev pub hex_digit_value : ℕ → ℕ
hex_digit_value d = if nat_le d 57 then d - 48 else (if nat_le d 70 then d - 55 else d - 87)

-- of the hexadecimal digits at the front
abbrev pub hex_value : ℕ → List ℕ → ℕ
hex_value n [] = n
hex_value n (d ∷ digits) = if is_ascii_hexdigit d then hex_value (16 * n + hex_digit_value d) digits else n

-- Fields

abbrev pub field : List ℕ → List ℕ → Field
field name value = record { name = name; value = value }

abbrev pub is_named : List ℕ → Field → Bool
is_named name f = bytes_eq f.name name

-- the values of the fields of this name, in order
abbrev pub values_of : List ℕ → List Field → List (List ℕ)
values_of name fields = filter_map (λ (f : Field). if is_named name f then Some f.value else None) fields

abbrev pub first_or : List ℕ → List (List ℕ) → List ℕ
first_or other [] = other
first_or other (value ∷ values) = value

-- the value of the first field of this name; empty where there is none
abbrev pub value_of : List ℕ → List Field → List ℕ
value_of name fields = first_or [] (values_of name fields)

abbrev pub without : List (List ℕ) → List Field → List Field
without names fields = filter (λ (f : Field). not (is_one_of names f.name)) fields

-- the names that speak of one connection or of the framing (RFC 9110 section 7.6.1), and `expect`, which the proxy
-- answers itself: no mutation changes them
abbrev pub owned_names : List (List ℕ)
owned_names =
    codes "content-length" ∷ codes "transfer-encoding" ∷ codes "connection" ∷ codes "keep-alive"
    ∷ codes "proxy-connection" ∷ codes "te" ∷ codes "trailer" ∷ codes "upgrade" ∷ codes "expect" ∷ []
