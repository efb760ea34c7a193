-- The keys of the configuration, which is one JSON object.
use Rattle.std.specs.Prelude.{ℕ, Bool, true, false, not, ◌&&◌, List, [], ◌∷◌, ◌++◌, Option, Some, None, nat_le, codes, length, bytes_eq, option_and_then, unwrap_or}
use Rattle.std.specs.List.{list_any, list_all}
use Rattle.serde_json.specs.Data.{Num, unsigned, negative, float, Data, boolean, number, string, array, object, Items, no_items, item, no_members}
use Rattle.serde_json.specs.Find.{get}
use Rattle.ext_config.specs.declared.keys.Section.{Section}
use Rattle.ext_config.specs.declared.keys.Section.TheVariants.{Top, Modes, Rules}
use Rattle.ext_config.specs.declared.config.ConfigFault.{ConfigFault}
use Rattle.ext_config.specs.declared.config.ConfigFault.TheVariants as fault

-- what a key wants
pub data Want : Type 0 where
  -- `true` or `false`
  Truth : Want
  -- a whole number, from the first to the second
  Number : ℕ → ℕ → Want
  -- one of these texts
  Choice : List (List ℕ) → Want
  -- an array of at most 64 texts, each of 1 to 256 bytes without upper-case ASCII letters
  Prefixes : Want
  -- a text of 1 to 255 bytes from 0x21 to 0x7e
  Authority : Want
  -- an object with keys of its own
  Object : Want

-- a row of the key table
pub record Row : Type 0 where
  -- the object that the key stands in
  pub section : Section
  pub name : List ℕ
  pub kind : Want
  -- what an absent key means
  pub default : Data

abbrev pub row : Section → List ℕ → Want → Data → Row
row section name kind default = record { section = section; name = name; kind = kind; default = default }

-- The key table: section, name, kind with its range, default

abbrev pub whole : ℕ → Data
whole n = number (unsigned n)

abbrev pub text : List ℕ → Data
text bytes = string bytes

-- whether a head or trailers are asked
abbrev pub part_choice : Want
part_choice = Choice (codes "DEFAULT" ∷ codes "SEND" ∷ codes "SKIP" ∷ [])

-- how a body is asked
abbrev pub body_choice : Want
body_choice = Choice (codes "NONE" ∷ codes "STREAMED" ∷ codes "BUFFERED" ∷ codes "BUFFERED_PARTIAL" ∷ [])

abbrev pub general_keys : List Row
general_keys =
    row Top (codes "version") (Number 1 1) (whole 1)
    ∷ row Top (codes "failure_mode_allow") Truth (boolean false)
    ∷ row Top (codes "message_timeout_ms") (Number 1 3600000) (whole 200)
    ∷ row Top (codes "max_message_timeout_ms") (Number 0 3600000) (whole 0)
    ∷ row Top (codes "allow_mode_override") Truth (boolean false)
    ∷ row Top (codes "disable_immediate_response") Truth (boolean false)
    ∷ []

abbrev pub mode_keys : List Row
mode_keys =
    row Top (codes "processing_mode") Object (object no_members)
    ∷ row Modes (codes "request_header_mode") part_choice (text (codes "DEFAULT"))
    ∷ row Modes (codes "response_header_mode") part_choice (text (codes "DEFAULT"))
    ∷ row Modes (codes "request_body_mode") body_choice (text (codes "NONE"))
    ∷ row Modes (codes "response_body_mode") body_choice (text (codes "NONE"))
    ∷ row Modes (codes "request_trailer_mode") part_choice (text (codes "DEFAULT"))
    ∷ row Modes (codes "response_trailer_mode") part_choice (text (codes "DEFAULT"))
    ∷ []

abbrev pub rule_keys : List Row
rule_keys =
    row Top (codes "mutation_rules") Object (object no_members)
    ∷ row Rules (codes "allow_all_routing") Truth (boolean false)
    ∷ row Rules (codes "allow_envoy") Truth (boolean false)
    ∷ row Rules (codes "disallow_system") Truth (boolean false)
    ∷ row Rules (codes "disallow_all") Truth (boolean false)
    ∷ row Rules (codes "disallow_is_error") Truth (boolean false)
    ∷ row Rules (codes "disallow_prefixes") Prefixes (array no_items)
    ∷ row Rules (codes "allow_prefixes") Prefixes (array no_items)
    ∷ []

abbrev pub limit_keys : List Row
limit_keys =
    row Top (codes "buffer_limit") (Number 1 1048576) (whole 65536)
    ∷ row Top (codes "answer_limit") (Number 1024 2097152) (whole 131072)
    ∷ row Top (codes "max_exchanges") (Number 1 64) (whole 64)
    ∷ row Top (codes "authority") Authority (text (codes "localhost"))
    ∷ []

abbrev pub key_table : List Row
key_table = general_keys ++ (mode_keys ++ (rule_keys ++ limit_keys))

-- Where a key stands

-- the key of a section's object
abbrev pub section_name : Section → List ℕ
section_name Top = []
section_name Modes = codes "processing_mode"
section_name Rules = codes "mutation_rules"

-- what stands under a key
unfoldable pub found : Section → List ℕ → Data → Option Data
found Top name config = get name config
found Modes name config = option_and_then (get name) (get (section_name Modes) config)
found Rules name config = option_and_then (get name) (get (section_name Rules) config)

-- how a key is named: with a dot behind its section
unfoldable pub dotted : Section → List ℕ → List ℕ
dotted Top name = name
dotted Modes name = section_name Modes ++ 46 ∷ name
dotted Rules name = section_name Rules ++ 46 ∷ name

-- what stands under the key of a row, or its default
unfoldable pub setting : Row → Data → Data
setting row config = unwrap_or (found row.section row.name config) row.default

-- Whether a value is what its key wants

pub data Fit : Type 0 where
  Fits : Fit
  OtherKind : Fit
  OutOfRange : Fit

abbrev pub in_range : Bool → Fit
in_range true = Fits
in_range false = OutOfRange

abbrev pub is_within : ℕ → ℕ → ℕ → Bool
is_within low high n = nat_le low n && nat_le n high

-- a number that is no whole one, or doesn't fit 64 bits, is of another kind
unfoldable pub judge_number : ℕ → ℕ → Num → Fit
judge_number low high (unsigned n) = in_range (is_within low high n)
judge_number low high (negative z) = OutOfRange
judge_number low high (float x) = OtherKind

-- an item before other texts
abbrev pub text_before : Data → Option (List (List ℕ)) → Option (List (List ℕ))
text_before (string s) (Some others) = Some (s ∷ others)
text_before _ _ = None

-- the texts of an array, if it has nothing else
unfoldable pub texts : Items → Option (List (List ℕ))
texts no_items = Some []
texts (item d ds) = text_before d (texts ds)

unfoldable pub has_no_capital : List ℕ → Bool
has_no_capital bytes = list_all (λ b. not (is_within 65 90 b)) bytes

unfoldable pub is_prefix : List ℕ → Bool
is_prefix bytes = is_within 1 256 (length bytes) && has_no_capital bytes

unfoldable pub are_all_prefixes : List (List ℕ) → Bool
are_all_prefixes names = list_all is_prefix names

unfoldable pub are_prefixes : List (List ℕ) → Bool
are_prefixes names = nat_le (length names) 64 && are_all_prefixes names

unfoldable pub is_visible : List ℕ → Bool
is_visible bytes = list_all (is_within 33 126) bytes

unfoldable pub is_authority : List ℕ → Bool
is_authority bytes = is_within 1 255 (length bytes) && is_visible bytes

unfoldable pub judge_texts : Option (List (List ℕ)) → Fit
judge_texts (Some names) = in_range (are_prefixes names)
judge_texts None = OtherKind

unfoldable pub judge : Want → Data → Fit
judge Truth (boolean b) = Fits
judge Truth _ = OtherKind
judge (Number low high) (number n) = judge_number low high n
judge (Number low high) _ = OtherKind
judge (Choice names) (string s) = in_range (list_any (bytes_eq s) names)
judge (Choice names) _ = OtherKind
judge Prefixes (array ds) = judge_texts (texts ds)
judge Prefixes _ = OtherKind
judge Authority (string s) = in_range (is_authority s)
judge Authority _ = OtherKind
judge Object (object ms) = Fits
judge Object _ = OtherKind

-- Faults

abbrev pub fault_at : List ℕ → Fit → Option ConfigFault
fault_at key Fits = None
fault_at key OtherKind = Some (fault.Kind key)
fault_at key OutOfRange = Some (fault.Range key)

-- what is wrong with the key of a row
unfoldable pub fault_of : Row → Data → Option ConfigFault
fault_of row config = fault_at (dotted row.section row.name) (judge row.kind (setting row config))

-- the first of two faults
abbrev pub or_else : Option ConfigFault → Option ConfigFault → Option ConfigFault
or_else None other = other
or_else (Some f) other = Some f

-- what is wrong with the first row at fault
abbrev pub first_fault : List Row → Data → Option ConfigFault
first_fault [] config = None
first_fault (row ∷ rows) config = or_else (fault_of row config) (first_fault rows config)
