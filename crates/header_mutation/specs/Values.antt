-- The values that a mutation may set.
use Rattle.std.specs.Prelude.{ℕ, Bool, true, false, ◌&&◌, ◌||◌, List, [], ◌∷◌, if◌then◌else◌, ◌==◌, nat_le, nat_lt, codes, length, reverse, bytes_eq}
use Rattle.std.specs.List.{list_all}
use Rattle.http_header.specs.Token.{token_test}

abbrev pub is_within : ℕ → ℕ → ℕ → Bool
is_within low high b = nat_le low b && nat_le b high

-- a tab, or a byte from 0x20 to 0x7e or from 0x80 to 0xff
abbrev pub is_text_byte : ℕ → Bool
is_text_byte b = b == 9 || is_within 32 126 b || is_within 128 255 b

unfoldable pub is_text : List ℕ → Bool
is_text bytes = list_all is_text_byte bytes

-- bytes from 0x21 to 0x7e
unfoldable pub is_visible : List ℕ → Bool
is_visible bytes = list_all (is_within 33 126) bytes

-- a token of RFC 9110
unfoldable pub is_method : List ℕ → Bool
is_method value = nat_lt 0 (length value) && list_all token_test value

unfoldable pub is_scheme : List ℕ → Bool
is_scheme value = bytes_eq value (codes "http") || bytes_eq value (codes "https")

unfoldable pub is_authority : List ℕ → Bool
is_authority [] = false
is_authority (b ∷ value) = is_visible (b ∷ value)

-- `*`, or `/` and then visible bytes
unfoldable pub is_path : List ℕ → Bool
is_path [] = false
is_path (b ∷ value) = bytes_eq (b ∷ value) (codes "*") || (b == 47 && is_visible value)

-- three digits from 200 to 599
unfoldable pub is_status : List ℕ → Bool
is_status (a ∷ b ∷ c ∷ []) = is_within 50 53 a && is_within 48 57 b && is_within 48 57 c
is_status _ = false

-- a value that the field of this name may have
unfoldable pub is_valid_value : List ℕ → List ℕ → Bool
is_valid_value name value = is_text value
    && (if bytes_eq name (codes ":method") then is_method value
    else if bytes_eq name (codes ":scheme") then is_scheme value
    else if bytes_eq name (codes ":authority") then is_authority value
    else if bytes_eq name (codes ":path") then is_path value
    else if bytes_eq name (codes ":status") then is_status value
    else true)

abbrev pub is_blank : ℕ → Bool
is_blank b = b == 32 || b == 9

-- without the spaces and tabs at the front
unfoldable pub trim_start : List ℕ → List ℕ
trim_start [] = []
trim_start (b ∷ bytes) = if is_blank b then trim_start bytes else b ∷ bytes

-- without the spaces and tabs at the end
unfoldable pub trim_end : List ℕ → List ℕ
trim_end bytes = reverse (trim_start (reverse bytes))

-- without the spaces and tabs at both ends
unfoldable pub trim : List ℕ → List ℕ
trim bytes = trim_end (trim_start bytes)
