-- The configuration that bytes hold, or what is wrong with them.
use Rattle.std.specs.Prelude.{ℕ, ◌≡◌, Bool, true, false, not, ◌&&◌, List, [], ◌∷◌, ◌++◌, Option, Some, None, Result, Ok, Err, if◌then◌else◌, codes, bytes_eq, unwrap_or, fold}
use Rattle.std.specs.List.{list_any}
use Rattle.std.specs.Str.{is_utf8}
use Rattle.std.specs.Ordering.{match_ordering, nat_cmp}
use Rattle.std.specs.Cmp.Lexicographic.{slice_cmp}
use Rattle.serde_json.specs.Data.{Num, unsigned, negative, float, Data, null, boolean, number, string, array, object, Members, no_members, member}
use Rattle.serde_json.specs.Read.{read}
use Rattle.ext_msgs.specs.declared.modes.BodyMode.{BodyMode}
use Rattle.ext_msgs.specs.declared.modes.BodyMode.TheVariants.{NoAsk, Streamed, Buffered, Partial}
use Rattle.ext_msgs.specs.declared.modes.PartModes.{PartModes}
use Rattle.header_mutation.specs.declared.rules.Rules.{Rules}
use Rattle.ext_config.specs.declared.config.Config.{Config}
use Rattle.ext_config.specs.declared.config.ConfigFault.{ConfigFault}
use Rattle.ext_config.specs.declared.config.ConfigFault.TheVariants as fault
use Rattle.ext_config.specs.declared.keys.Section.{Section}
use Rattle.ext_config.specs.declared.keys.Section.TheVariants as place
use Rattle.ext_config.specs.Keys.{Row, key_table, section_name, found, dotted, setting, texts, first_fault}

-- Unknown keys

abbrev pub same_section : Section → Section → Bool
same_section place.Top place.Top = true
same_section place.Modes place.Modes = true
same_section place.Rules place.Rules = true
same_section _ _ = false

-- the row is that of a key
abbrev pub is_row_of : Section → List ℕ → Row → Bool
is_row_of section name row = same_section section row.section && bytes_eq name row.name

-- the table has a key of this name in this section
unfoldable pub is_known : Section → List ℕ → Bool
is_known section name = list_any (is_row_of section name) key_table

-- the members that the table doesn't know, by their dotted names
unfoldable pub unknown_in : Section → Members → List (List ℕ)
unknown_in section no_members = []
unknown_in section (member name d others) =
    if is_known section name then unknown_in section others else dotted section name ∷ unknown_in section others

abbrev pub members : Data → Members
members (object ms) = ms
members _ = no_members

-- the members of a section's object
unfoldable pub members_at : Section → Data → Members
members_at section config = members (unwrap_or (found place.Top (section_name section) config) null)

-- the unknown keys of the configuration and of its sections
unfoldable pub unknown_keys : Data → List (List ℕ)
unknown_keys config =
    unknown_in place.Top (members config)
    ++ (unknown_in place.Modes (members_at place.Modes config) ++ unknown_in place.Rules (members_at place.Rules config))

-- the lesser of two names in byte order, where the first may be absent
unfoldable pub lesser : Option (List ℕ) → List ℕ → Option (List ℕ)
lesser None name = Some name
lesser (Some other) name = match_ordering (slice_cmp nat_cmp name other) (Some name) (Some other) (Some other)

-- the least of the names in byte order
unfoldable pub least : List (List ℕ) → Option (List ℕ)
least names = fold lesser None names

-- The configuration

abbrev pub truth_of : Data → Bool
truth_of (boolean b) = b
truth_of _ = false

abbrev pub unsigned_of : Num → ℕ
unsigned_of (unsigned n) = n
unsigned_of (negative z) = 0
unsigned_of (float x) = 0

abbrev pub number_of : Data → ℕ
number_of (number n) = unsigned_of n
number_of _ = 0

abbrev pub text_of : Data → List ℕ
text_of (string s) = s
text_of _ = []

abbrev pub texts_of : Data → List (List ℕ)
texts_of (array ds) = unwrap_or (texts ds) []
texts_of _ = []

-- a head is asked unless it is to be skipped
unfoldable pub asks_head : Data → Bool
asks_head mode = not (bytes_eq (text_of mode) (codes "SKIP"))

-- trailers are asked where they are to be sent
unfoldable pub asks_trailers : Data → Bool
asks_trailers mode = bytes_eq (text_of mode) (codes "SEND")

unfoldable pub body_mode : Data → BodyMode
body_mode mode =
    if bytes_eq (text_of mode) (codes "STREAMED") then Streamed
    else if bytes_eq (text_of mode) (codes "BUFFERED") then Buffered
    else if bytes_eq (text_of mode) (codes "BUFFERED_PARTIAL") then Partial
    else NoAsk

-- the row of a key gives its setting
abbrev pub setting_in : List Row → Section → List ℕ → Data → Data
setting_in [] section name config = null
setting_in (row ∷ rows) section name config =
    if is_row_of section name row then setting row config else setting_in rows section name config

-- what the table gives for a key
unfoldable pub at_key : Section → List ℕ → Data → Data
at_key section name config = setting_in key_table section name config

unfoldable pub request_modes : Data → PartModes
request_modes config = record {
  headers = asks_head (at_key place.Modes (codes "request_header_mode") config);
  body = body_mode (at_key place.Modes (codes "request_body_mode") config);
  trailers = asks_trailers (at_key place.Modes (codes "request_trailer_mode") config);
}

unfoldable pub response_modes : Data → PartModes
response_modes config = record {
  headers = asks_head (at_key place.Modes (codes "response_header_mode") config);
  body = body_mode (at_key place.Modes (codes "response_body_mode") config);
  trailers = asks_trailers (at_key place.Modes (codes "response_trailer_mode") config);
}

unfoldable pub mutation_rules : Data → Rules
mutation_rules config = record {
  allow_all_routing = truth_of (at_key place.Rules (codes "allow_all_routing") config);
  allow_envoy = truth_of (at_key place.Rules (codes "allow_envoy") config);
  disallow_system = truth_of (at_key place.Rules (codes "disallow_system") config);
  disallow_all = truth_of (at_key place.Rules (codes "disallow_all") config);
  disallow_is_error = truth_of (at_key place.Rules (codes "disallow_is_error") config);
  disallow_prefixes = texts_of (at_key place.Rules (codes "disallow_prefixes") config);
  allow_prefixes = texts_of (at_key place.Rules (codes "allow_prefixes") config);
}

unfoldable pub config_of : Data → Config
config_of config = record {
  failure_allow = truth_of (at_key place.Top (codes "failure_mode_allow") config);
  timeout_ms = number_of (at_key place.Top (codes "message_timeout_ms") config);
  max_timeout_ms = number_of (at_key place.Top (codes "max_message_timeout_ms") config);
  allow_override = truth_of (at_key place.Top (codes "allow_mode_override") config);
  no_immediate = truth_of (at_key place.Top (codes "disable_immediate_response") config);
  request = request_modes config;
  response = response_modes config;
  rules = mutation_rules config;
  buffer_limit = number_of (at_key place.Top (codes "buffer_limit") config);
  answer_limit = number_of (at_key place.Top (codes "answer_limit") config);
  max_exchanges = number_of (at_key place.Top (codes "max_exchanges") config);
  authority = text_of (at_key place.Top (codes "authority") config);
}

-- The whole

abbrev pub unless_unknown : Option (List ℕ) → Option ConfigFault → Config → Result Config ConfigFault
unless_unknown (Some key) other config = Err (fault.Unknown key)
unless_unknown None (Some f) config = Err f
unless_unknown None None config = Ok config

-- an object: an unknown key goes before a known key at fault
unfoldable pub configured_by : Data → Result Config ConfigFault
configured_by config = unless_unknown (least (unknown_keys config)) (first_fault key_table config) (config_of config)

abbrev pub from_json : Option Data → Result Config ConfigFault
from_json (Some (object ms)) = configured_by (object ms)
from_json (Some _) = Err fault.Json
from_json None = Err fault.Json

-- the value of a JSON text in UTF-8
unfoldable pub json_of : List ℕ → Option Data
json_of bytes = if is_utf8 bytes then read bytes else None

-- the configuration that the bytes hold, or the first fault
unfoldable pub configured : List ℕ → Result Config ConfigFault
configured bytes = from_json (json_of bytes)

-- What a call answers

-- the fault is the one that there is, if it isn't want of memory
abbrev pub IsFault : Option ConfigFault → ConfigFault → Type 0
IsFault there (fault.Unknown key) = there ≡ Some (fault.Unknown key)
IsFault there (fault.Kind key) = there ≡ Some (fault.Kind key)
IsFault there (fault.Range key) = there ≡ Some (fault.Range key)
IsFault there fault.Json = there ≡ Some fault.Json
IsFault there fault.Memory = Unit {0}

-- the fault of a result
abbrev pub fault_in : Result Config ConfigFault → Option ConfigFault
fault_in (Ok config) = None
fault_in (Err f) = Some f
