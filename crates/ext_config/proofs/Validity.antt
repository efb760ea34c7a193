-- What the key table lets through is valid.
use Rattle.std.proofs.Common.{◌≡◌, ℕ, Bool, true, false, List, [], ◌∷◌, Option, Some, None, refl, arith, unwrap_or}
use Rattle.std.proofs.lemmas.Bool.Decides.{nat_tests}
use Rattle.serde_json.specs.Data.{unsigned, negative, float, Data, null, boolean, number, string, array, object}
use Rattle.ext_config.specs.declared.config.ConfigFault.{ConfigFault}
use Rattle.ext_config.specs.Keys.{Row, Number, Prefixes, Authority, Fit, Fits, OtherKind, OutOfRange, in_range, is_within, judge_number, judge_texts, judge, texts, are_prefixes, is_authority, setting, fault_at, fault_of, dotted, or_else, first_fault, general_keys, mode_keys, rule_keys, limit_keys, key_table}
use Rattle.ext_config.specs.Configured.{number_of, text_of, texts_of, at_key, mutation_rules, config_of}
use Rattle.ext_config.specs.Valid.{IsValid, IsBetween}
use Rattle.ext_config.proofs.Tables.{table_by_parts}

none_first : (a b : Option ConfigFault) → or_else a b ≡ None → a ≡ None
none_first None b h = refl
none_first (Some f) b h = h

none_second : (a b : Option ConfigFault) → or_else a b ≡ None → b ≡ None
none_second None b h = h
none_second (Some f) b h = cc

fits_without_fault : (key : List ℕ) (fit : Fit) → fault_at key fit ≡ None → fit ≡ Fits
fits_without_fault key Fits h = refl
fits_without_fault key OtherKind h = cc
fits_without_fault key OutOfRange h = cc

fits : (row : Row) (d : Data) → fault_of row d ≡ None → judge row.kind (setting row d) ≡ Fits
unfolding fault_of
fits row d h = fits_without_fault (dotted row.section row.name) (judge row.kind (setting row d)) h

true_in_range : (b : Bool) → in_range b ≡ Fits → b ≡ true
true_in_range true h = refl
true_in_range false h = cc

within : (low high n : ℕ) → is_within low high n ≡ true → IsBetween low high n
within low high n h = grind (arith, nat_tests, h)

number_within : (low high : ℕ) (d : Data) → judge (Number low high) d ≡ Fits → IsBetween low high (number_of d)
unfolding judge judge_number
number_within low high null h = cc
number_within low high (boolean b) h = cc
number_within low high (number (unsigned n)) h = within low high n (true_in_range (is_within low high n) h)
number_within low high (number (negative z)) h = cc
number_within low high (number (float x)) h = cc
number_within low high (string s) h = cc
number_within low high (array ds) h = cc
number_within low high (object ms) h = cc

texts_in_range : (names : Option (List (List ℕ))) → judge_texts names ≡ Fits → are_prefixes (unwrap_or names []) ≡ true
unfolding judge_texts
texts_in_range None h = cc
texts_in_range (Some names) h = true_in_range (are_prefixes names) h

prefixes_in_range : (d : Data) → judge Prefixes d ≡ Fits → are_prefixes (texts_of d) ≡ true
unfolding judge
prefixes_in_range null h = cc
prefixes_in_range (boolean b) h = cc
prefixes_in_range (number n) h = cc
prefixes_in_range (string s) h = cc
prefixes_in_range (array ds) h = texts_in_range (texts ds) h
prefixes_in_range (object ms) h = cc

authority_in_range : (d : Data) → judge Authority d ≡ Fits → is_authority (text_of d) ≡ true
unfolding judge
authority_in_range null h = cc
authority_in_range (boolean b) h = cc
authority_in_range (number n) h = cc
authority_in_range (string s) h = true_in_range (is_authority s) h
authority_in_range (array ds) h = cc
authority_in_range (object ms) h = cc

-- no row has a fault
abbrev pub AreFaultless : List Row → Data → Type 0
AreFaultless [] d = Unit {0}
AreFaultless (row ∷ rows) d = (fault_of row d ≡ None) × AreFaultless rows d

faultless : (rows : List Row) (d : Data) → first_fault rows d ≡ None → AreFaultless rows d
faultless [] d h = tt
faultless (row ∷ rows) d h =
    (none_first (fault_of row d) (first_fault rows d) h, faultless rows d (none_second (fault_of row d) (first_fault rows d) h))

-- without a fault the configuration is valid
pub valid_without_fault : (d : Data) → first_fault key_table d ≡ None → IsValid (config_of d)
unfolding config_of mutation_rules at_key
valid_without_fault d h =
    let parts = rw (table_by_parts d) at h in
    let from_modes = none_second (first_fault general_keys d) _ parts in
    let from_rules = none_second (first_fault mode_keys d) _ from_modes in
    let general : AreFaultless general_keys d = faultless general_keys d (none_first _ (or_else (first_fault mode_keys d) (or_else (first_fault rule_keys d) (first_fault limit_keys d))) parts) in
    let rules : AreFaultless rule_keys d = faultless rule_keys d (none_first _ (first_fault limit_keys d) from_rules) in
    let limits : AreFaultless limit_keys d = faultless limit_keys d (none_second (first_fault rule_keys d) _ from_rules) in
    record {
      timeout = number_within 1 3600000 _ (fits _ d general.1.1.0);
      max_timeout = number_within 0 3600000 _ (fits _ d general.1.1.1.0);
      disallow_prefixes = prefixes_in_range _ (fits _ d rules.1.1.1.1.1.1.0);
      allow_prefixes = prefixes_in_range _ (fits _ d rules.1.1.1.1.1.1.1.0);
      buffer_limit = number_within 1 1048576 _ (fits _ d limits.0);
      answer_limit = number_within 1024 2097152 _ (fits _ d limits.1.0);
      max_exchanges = number_within 1 64 _ (fits _ d limits.1.1.0);
      authority = authority_in_range _ (fits _ d limits.1.1.1.0);
    }
