-- The key table as a whole: what no fault in it says, and what the first fault is.
use Rattle.std.proofs.Common.{◌≡◌, ℕ, Bool, true, false, List, [], ◌∷◌, ◌++◌, Option, Some, None, Ok, Err, refl, sym, ap, ◌∙◌, true≢false, is_some, if◌then◌else◌, IsUtf8}
use Rattle.std.proofs.lemmas.Str.{IsUtf8-from_is_utf8, is_utf8-from_IsUtf8}
use Rattle.std.specs.Str.{is_utf8}
use Rattle.serde_json.specs.Read.{read}
use Rattle.serde_json.specs.Data.{Data, null, boolean, number, string, array, object, Members}
use Rattle.serde_json.specs.Find.{as_object}
use Rattle.ext_config.specs.declared.config.Config.{Config}
use Rattle.ext_config.specs.declared.config.ConfigFault.{ConfigFault}
use Rattle.ext_config.specs.declared.config.ConfigFault.TheVariants as fault
use Rattle.ext_config.specs.Keys.{Row, fault_of, or_else, first_fault, general_keys, mode_keys, rule_keys, limit_keys, key_table}
use Rattle.ext_config.specs.Configured.{config_of, configured, configured_by, json_of, from_json, unless_unknown, unknown_keys, least, fault_in}

-- Faults of a table

or_else-assoc : (a b c : Option ConfigFault) → or_else (or_else a b) c ≡ or_else a (or_else b c)
or_else-assoc None b c = refl
or_else-assoc (Some f) b c = refl

first_fault-append : (xs ys : List Row) (d : Data) → first_fault (xs ++ ys) d ≡ or_else (first_fault xs d) (first_fault ys d)
first_fault-append [] ys d = refl
first_fault-append (x ∷ xs) ys d =
    rw (first_fault-append xs ys d, or_else-assoc (fault_of x d) (first_fault xs d) (first_fault ys d)) refl

-- the parts of the table are gone through one after another
pub table_by_parts : (d : Data) → first_fault key_table d
    ≡ or_else (first_fault general_keys d)
    (or_else (first_fault mode_keys d) (or_else (first_fault rule_keys d) (first_fault limit_keys d)))
table_by_parts d =
    rw (
      first_fault-append general_keys (mode_keys ++ (rule_keys ++ limit_keys)) d,
      first_fault-append mode_keys (rule_keys ++ limit_keys) d,
      first_fault-append rule_keys limit_keys d,
    ) refl

-- The configuration as a whole

module _ (d : Data) where
  -- an unknown key goes first
  pub unknown_first : (key : List ℕ) → Some key ≡ least (unknown_keys d) → fault_in (configured_by d) ≡ Some (fault.Unknown key)
  unfolding configured_by
  unknown_first key h = rw (← h) refl

  unless_none : (f : Option ConfigFault) (config : Config) → fault_in (unless_unknown None f config) ≡ f
  unless_none None config = refl
  unless_none (Some f) config = refl

  -- where none is unknown, the table's first fault is the fault
  pub table_fault : None ≡ least (unknown_keys d) → fault_in (configured_by d) ≡ first_fault key_table d
  unfolding configured_by
  table_fault h = rw (← h) (unless_none (first_fault key_table d) (config_of d))

  -- where nothing is at fault, the configuration is read
  pub no_fault : None ≡ least (unknown_keys d) → first_fault key_table d ≡ None → configured_by d ≡ Ok (config_of d)
  unfolding configured_by
  no_fault h k = rw (← h, k) refl

-- an object is read by the table
pub from_object : (d : Data) (ms : Members) → as_object d ≡ Some ms → from_json (Some d) ≡ configured_by d
from_object null ms h = cc
from_object (boolean b) ms h = cc
from_object (number n) ms h = cc
from_object (string s) ms h = cc
from_object (array ds) ms h = cc
from_object (object os) ms h = refl

-- what is no object is no configuration
pub from_other : (d : Data) → as_object d ≡ None → from_json (Some d) ≡ Err fault.Json
from_other null h = refl
from_other (boolean b) h = refl
from_other (number n) h = refl
from_other (string s) h = refl
from_other (array ds) h = refl
from_other (object os) h = cc

-- bytes that are no JSON text
pub json_refused : (bytes : List ℕ) → (IsUtf8 bytes → read bytes ≡ None) → fault_in (configured bytes) ≡ Some fault.Json
unfolding configured json_of
json_refused bytes h = by_test (is_utf8 bytes) refl
  where
    by_test : (t : Bool) → is_utf8 bytes ≡ t → fault_in (from_json (if t then read bytes else None)) ≡ Some fault.Json
    by_test true e = rw (h (IsUtf8-from_is_utf8 bytes e)) refl
    by_test false e = refl

json_read : (bytes : List ℕ) (d : Data) → IsUtf8 bytes → read bytes ≡ Some d → configured bytes ≡ from_json (Some d)
unfolding configured json_of
json_read bytes d h k = rw (is_utf8-from_IsUtf8 bytes h, k) refl

none_by_test : {A : Type 0} (o : Option A) → is_some o ≡ false → o ≡ None
none_by_test None h = refl
none_by_test (Some x) h = absurd (true≢false h)

-- a JSON text that is no object
pub json_other : (bytes : List ℕ) (d : Data) → IsUtf8 bytes → read bytes ≡ Some d → is_some (as_object d) ≡ false
    → fault_in (configured bytes) ≡ Some fault.Json
json_other bytes d h k other = rw (json_read bytes d h k, from_other d (none_by_test (as_object d) other)) refl

-- a JSON text that is an object
pub json_object : (bytes : List ℕ) (d : Data) → IsUtf8 bytes → read bytes ≡ Some d → is_some (as_object d) ≡ true
    → configured bytes ≡ configured_by d
json_object bytes d h k is_object = json_read bytes d h k ∙ by_object (as_object d) refl
  where
    by_object : (o : Option Members) → as_object d ≡ o → from_json (Some d) ≡ configured_by d
    by_object None e = absurd (true≢false (sym is_object ∙ ap is_some e))
    by_object (Some ms) e = from_object d ms e
