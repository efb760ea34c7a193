-- The names of header fields, as a mutation sees them.
use Rattle.std.specs.Prelude.{ℕ, Bool, false, not, ◌||◌, List, [], ◌∷◌, if◌then◌else◌, ◌==◌, nat_eq, codes, filter, bytes_eq}
use Rattle.std.specs.List.{list_any, starts_with}
use Rattle.http_header.specs.Token.{lowercase}
use Rattle.http_header.specs.FieldName.{is_field_name}
use Rattle.ext_msgs.specs.declared.lists.Field.{Field}
use Rattle.header_mutation.specs.declared.rules.PartKind.{PartKind}
use Rattle.header_mutation.specs.declared.rules.PartKind.TheVariants.{RequestHead, ResponseHead, Trailers}

-- the name is one of these
unfoldable pub is_among : List (List ℕ) → List ℕ → Bool
is_among names name = list_any (bytes_eq name) names

-- the name begins with these bytes
abbrev pub begins_with : List ℕ → List ℕ → Bool
begins_with prefix name = starts_with nat_eq name prefix

-- the name begins with one of these
unfoldable pub begins_with_any : List (List ℕ) → List ℕ → Bool
begins_with_any prefixes name = list_any (λ prefix. begins_with prefix name) prefixes

-- the name of a pseudo field begins with `:`
unfoldable pub is_pseudo : List ℕ → Bool
is_pseudo [] = false
is_pseudo (b ∷ name) = b == 58

-- a name that an item may have: that of a pseudo field, or a field name of RFC 9110 of at most 65,535 bytes
unfoldable pub is_valid_name : List ℕ → Bool
is_valid_name name = is_pseudo name || is_field_name name

-- a name that doesn't begin with `:` counts in lower case
unfoldable pub folded : List ℕ → List ℕ
folded name = if is_pseudo name then name else lowercase name

-- in a request head `host` means `:authority`
unfoldable pub host_in : PartKind → List ℕ → List ℕ
host_in RequestHead name = if bytes_eq name (codes "host") then codes ":authority" else name
host_in ResponseHead name = name
host_in Trailers name = name

-- the name that an item of this name changes
unfoldable pub canonical : PartKind → List ℕ → List ℕ
canonical part name = host_in part (folded name)

-- the names that the proxy itself writes, and no mutation changes
abbrev pub owned_names : List (List ℕ)
owned_names =
    codes "content-length" ∷ codes "transfer-encoding" ∷ codes "connection" ∷ codes "keep-alive"
    ∷ codes "proxy-connection" ∷ codes "te" ∷ codes "trailer" ∷ codes "upgrade" ∷ codes "expect" ∷ []

unfoldable pub is_owned : List ℕ → Bool
is_owned name = is_among owned_names name

-- the names that choose where a request goes
abbrev pub routing_names : List (List ℕ)
routing_names = codes "host" ∷ codes ":authority" ∷ codes ":scheme" ∷ codes ":method" ∷ []

unfoldable pub is_routing : List ℕ → Bool
is_routing name = is_among routing_names name

-- the field has this name
abbrev pub is_named : List ℕ → Field → Bool
is_named name field = bytes_eq name field.name

-- a field has this name
unfoldable pub has_field : List ℕ → List Field → Bool
has_field name fields = list_any (is_named name) fields

-- the fields of any other name
unfoldable pub without : List ℕ → List Field → List Field
without name fields = filter (λ field. not (is_named name field)) fields
