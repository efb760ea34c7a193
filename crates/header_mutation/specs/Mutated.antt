-- What a header mutation makes of the fields of a head or of trailers.
use Rattle.std.specs.Prelude.{ℕ, ◌≡◌, Bool, true, false, not, ◌&&◌, ◌||◌, List, [], ◌∷◌, ◌++◌, Option, Some, None, if◌then◌else◌, ◌==◌, codes, map, filter, fold, bytes_eq}
use Rattle.std.specs.List.{list_any, position_from}
use Rattle.http_header.specs.Token.{is_token_byte}
use Rattle.ext_msgs.specs.declared.lists.Field.{Field}
use Rattle.ext_msgs.specs.declared.lists.SetField.{SetField}
use Rattle.ext_msgs.specs.declared.answer.HeaderMutation.{HeaderMutation}
use Rattle.header_mutation.specs.declared.rules.Rules.{Rules}
use Rattle.header_mutation.specs.declared.rules.PartKind.{PartKind}
use Rattle.header_mutation.specs.declared.rules.PartKind.TheVariants.{ResponseHead}
use Rattle.header_mutation.specs.declared.verdict.Verdict.{Verdict}
use Rattle.header_mutation.specs.declared.verdict.Verdict.TheVariants.{Ignored, Forbidden, Allowed}
use Rattle.header_mutation.specs.declared.rules.MutFault.{MutFault}
use Rattle.header_mutation.specs.declared.rules.MutFault.TheVariants as fault
use Rattle.header_mutation.specs.Names.{is_among, begins_with, begins_with_any, is_pseudo, is_valid_name, folded, host_in, canonical, is_owned, is_routing, is_named, has_field, without}
use Rattle.header_mutation.specs.Values.{is_text, is_visible, is_method, is_scheme, is_authority, is_path, is_status, is_valid_value, trim_start, trim_end, trim}

-- Items

-- one removal or one setting of a mutation
pub record Item : Type 0 where
  pub is_removal : Bool
  -- whether name and value, as they were written, may stand
  pub is_valid : Bool
  -- the name that it changes
  pub name : List ℕ
  -- the value without blanks at its ends
  pub value : List ℕ
  -- 0 appends, 1 appends where absent, 2 overwrites or appends, 3 overwrites where present
  pub action : ℕ

unfoldable pub removal : PartKind → List ℕ → Item
removal part name = record {
  is_removal = true;
  is_valid = is_valid_name name;
  name = canonical part name;
  value = [];
  action = 0;
}

-- a value is tested as it was written, by the name that the item changes
unfoldable pub setting : PartKind → SetField → Item
setting part set = record {
  is_removal = false;
  is_valid = is_valid_name set.name && is_valid_value (canonical part set.name) set.value;
  name = canonical part set.name;
  value = trim set.value;
  action = set.action;
}

-- removals go before settings; the place of an item is its number in this list, from 0
unfoldable pub items : PartKind → HeaderMutation → List Item
items part mutation = map (removal part) mutation.remove ++ map (setting part) mutation.set

-- The tests of an item

-- a field of this name has one of these values
unfoldable pub has_value : List ℕ → List (List ℕ) → List Field → Bool
has_value name values fields = list_any (λ (f : Field). bytes_eq f.name name && is_among values f.value) fields

-- the item would set the field of this name to one of these values
unfoldable pub sets_to : List ℕ → List (List ℕ) → Item → Bool
sets_to name values item = bytes_eq item.name name && is_among values item.value

-- the item would change the field of this name from one of these values
unfoldable pub changes_from : List ℕ → List (List ℕ) → List Field → Item → Bool
changes_from name values head item = bytes_eq item.name name && has_value name values head

-- a method or a status that decides whether and how a body follows would come or go
unfoldable pub changes_framing : List Field → Item → Bool
changes_framing head item =
    sets_to (codes ":method") (codes "HEAD" ∷ codes "CONNECT" ∷ []) item
    || changes_from (codes ":method") (codes "HEAD" ∷ []) head item
    || sets_to (codes ":status") (codes "204" ∷ codes "304" ∷ []) item
    || changes_from (codes ":status") (codes "204" ∷ codes "304" ∷ []) head item

-- a name that the proxy itself writes, or that of a pseudo field that the head doesn't have
unfoldable pub is_untouchable : List Field → Item → Bool
is_untouchable head item = is_owned item.name || (is_pseudo item.name && not (has_field item.name head))

-- the removal of a field that a head must have
unfoldable pub is_fixed : Item → Bool
is_fixed item = item.is_removal && (is_pseudo item.name || bytes_eq item.name (codes "host"))

-- a test of an item, and what it comes to where it is the first that applies
unfoldable pub tests : Rules → List Field → Item → List (Bool × Verdict)
tests rules head item =
    (is_untouchable head item, Ignored)
    ∷ (is_fixed item, Ignored)
    ∷ (changes_framing head item, Ignored)
    ∷ (begins_with_any rules.disallow_prefixes item.name, Forbidden)
    ∷ (begins_with_any rules.allow_prefixes item.name, Allowed)
    ∷ (rules.disallow_all, Forbidden)
    ∷ (rules.disallow_system && is_pseudo item.name, Forbidden)
    ∷ (begins_with (codes "x-envoy-") item.name && not rules.allow_envoy, Forbidden)
    ∷ (is_routing item.name && not rules.allow_all_routing, Forbidden)
    ∷ []

-- the first test that applies decides; where none does, the item is allowed
unfoldable pub first_applying : List (Bool × Verdict) → Verdict
first_applying [] = Allowed
first_applying (test ∷ others) = if test.0 then test.1 else first_applying others

unfoldable pub verdict : Rules → List Field → Item → Verdict
verdict rules head item = first_applying (tests rules head item)

abbrev pub is_forbidden : Verdict → Bool
is_forbidden Ignored = false
is_forbidden Forbidden = true
is_forbidden Allowed = false

abbrev pub is_allowed : Verdict → Bool
is_allowed Ignored = false
is_allowed Forbidden = false
is_allowed Allowed = true

-- What allowed items make of the fields

abbrev pub field : List ℕ → List ℕ → Field
field name value = record { name = name; value = value }

-- the first field of this name gets the value, and its other fields go
unfoldable pub overwritten : List ℕ → List ℕ → List Field → List Field
overwritten name value [] = []
overwritten name value (f ∷ fields) =
    if is_named name f then field name value ∷ without name fields else f ∷ overwritten name value fields

-- a setting, by its action
unfoldable pub set : List Field → Item → List Field
set fields item =
    if is_pseudo item.name then overwritten item.name item.value fields
    else if item.action == 0 then appended
    else if item.action == 1 then (if has_field item.name fields then fields else appended)
    else if item.action == 3 then overwritten item.name item.value fields
    else (if has_field item.name fields then overwritten item.name item.value fields else appended)
  where
    appended : List Field
    appended = fields ++ field item.name item.value ∷ []

unfoldable pub changed : List Field → Item → List Field
changed fields item = if item.is_removal then without item.name fields else set fields item

-- The mutation as a whole

pub data Outcome : Type 0 where
  -- the fields, changed
  Fields : List Field → Outcome
  -- the least place of an invalid item
  Bad : ℕ → Outcome
  -- the least place of a forbidden item
  Disallowed : ℕ → Outcome

-- the place of the first item that passes the test
abbrev pub first_place : (Item → Bool) → List Item → Option ℕ
first_place test items = position_from test 0 items

abbrev pub is_bad : Item → Bool
is_bad item = not item.is_valid

unfoldable pub first_bad : List Item → Option ℕ
first_bad items = first_place is_bad items

-- the first forbidden item, where `disallow_is_error` stands
unfoldable pub first_disallowed : Rules → List Field → List Item → Option ℕ
first_disallowed rules head items =
    if rules.disallow_is_error then first_place (λ i. is_forbidden (verdict rules head i)) items else None

-- the allowed items, in order
unfoldable pub applied : Rules → List Field → List Item → List Field
applied rules head items = fold changed head (filter (λ i. is_allowed (verdict rules head i)) items)

-- an invalid item goes before a forbidden one
abbrev pub outcome : Option ℕ → Option ℕ → List Field → Outcome
outcome (Some place) _ fields = Bad place
outcome None (Some place) fields = Disallowed place
outcome None None fields = Fields fields

-- each item is judged by the head as it came
unfoldable pub mutated : Rules → PartKind → List Field → HeaderMutation → Outcome
mutated rules part head mutation =
    outcome (first_bad (items part mutation)) (first_disallowed rules head (items part mutation))
    (applied rules head (items part mutation))

-- The head of an immediate reply

-- a setting of a field of its own: neither an owned name nor a pseudo field
unfoldable pub is_of_reply : Item → Bool
is_of_reply item = not item.is_removal && not (is_owned item.name || is_pseudo item.name)

-- its status, and the settings of its mutation
unfoldable pub replied : List ℕ → HeaderMutation → Outcome
replied status mutation =
    outcome (first_bad (items ResponseHead mutation)) None
    (fold changed (field (codes ":status") status ∷ []) (filter is_of_reply (items ResponseHead mutation)))

-- What a call answers

-- the fault is that of the outcome, if it isn't want of memory
abbrev pub IsFaultOf : Outcome → MutFault → Type 0
IsFaultOf outcome (fault.Bad place) = outcome ≡ Bad place
IsFaultOf outcome (fault.Disallowed place) = outcome ≡ Disallowed place
IsFaultOf outcome fault.Memory = Unit {0}

-- An `unfolding` line that names this opens every definition of header mutation, so that rows compute.
unfoldable pub mutation_rules : Unit {0}
unfolding is_token_byte is_among begins_with_any is_pseudo is_valid_name folded host_in canonical is_owned is_routing has_field without is_text is_visible is_method is_scheme is_authority is_path is_status is_valid_value trim_start trim_end trim removal setting items has_value sets_to changes_from changes_framing is_untouchable is_fixed tests first_applying verdict overwritten set changed first_bad first_disallowed applied mutated is_of_reply replied
mutation_rules = tt
