-- Fields and mutations that were written are read again.
use Rattle.std.proofs.Common.{◌≡◌, ℕ, zero, suc, ◌%◌, ◌^◌, ◌<◌, ◌≤◌, false, ltb, List, [], ◌∷◌, ◌++◌, length, map, refl, ap, ◌∙◌, arith}
use Rattle.std.specs.List.{AllByRecursion}
use Rattle.std.proofs.lemmas.List.Elements.{recursion_from_All}
use Rattle.std.specs.Str.{IsUtf8}
use Rattle.std.proofs.lemmas.Bool.{le-ltb}
use Rattle.std.proofs.lemmas.Str.{is_utf8-from_IsUtf8}
use Rattle.std.proofs.lemmas.List.{append-nil}
use Rattle.pb_wire.specs.Records.{Entry}
use Rattle.pb_wire.specs.Walk.{entries}
use Rattle.pb_wire.specs.Canonical.{spelling}
use Rattle.ext_msgs.specs.declared.lists.Field.{Field}
use Rattle.ext_msgs.specs.declared.lists.SetField.{SetField}
use Rattle.ext_msgs.specs.declared.answer.HeaderMutation.{HeaderMutation}
use Rattle.ext_msgs.specs.Fields.{spans}
use Rattle.ext_msgs.specs.MessageFault.{header_fault, map_fault, set_fault, mutation_fault}
use Rattle.ext_msgs.specs.MessageValue.{field, fields, set_field, mutation}
use Rattle.ext_msgs.specs.Spelling.{present, filled, some_number, header_records, field_record, map_records, set_records, set_record, removal_record, mutation_records}
use Rattle.ext_msgs.specs.Writable.{AreFields, IsSettable, IsMutation}
use Rattle.ext_msgs.proofs.Again.{AreGood, good_append, present_good, filled_good, number_good, embedded_good, same_again, rest_short, append_short, embedded_short}

-- ---- HeaderValue

pub header_good : (name value : List ℕ) → IsUtf8 name → AreGood header_fault (header_records name value)
header_good name value text =
    good_append header_fault (filled 1 name) (filled 3 value)
    (filled_good header_fault 1 name (omega arith) (omega arith) (λ place start. rw (is_utf8-from_IsUtf8 name text) refl))
    (filled_good header_fault 3 value (omega arith) (omega arith) (λ place start. refl))

header_said : (name value : List ℕ) → field (header_records name value) ≡ record { name = name; value = value }
header_said [] [] = refl
header_said [] (v ∷ value) = refl
header_said (b ∷ name) [] = refl
header_said (b ∷ name) (v ∷ value) = refl

pub header_again : (name value : List ℕ) → IsUtf8 name → length (spelling (header_records name value)) < 2 ^ 64 → field (entries (spelling (header_records name value))) ≡ record { name = name; value = value }
header_again name value text l = ap field (same_again header_fault (header_records name value) (header_good name value text) l) ∙ header_said name value

-- ---- HeaderMap

abbrev HaveTexts : List Field → Type 0
HaveTexts fs = AllByRecursion (λ f. IsUtf8 f.name) fs

each_good : (fs : List Field) → HaveTexts fs → AreGood map_fault (map_records fs)
each_good [] texts = tt
each_good (f ∷ fs) texts = (embedded_good map_fault header_fault 1 (header_records f.name f.value) (omega arith) (omega arith) (header_good f.name f.value texts.0) (λ place start h. h), each_good fs texts.1)

each_said : (fs : List Field) → HaveTexts fs → length (spelling (map_records fs)) < 2 ^ 64 → fields (map_records fs) ≡ fs
each_said [] texts l = refl
each_said (f ∷ fs) texts l =
    ap (λ (x : Field). x ∷ fields (map_records fs)) (header_again f.name f.value texts.0 (embedded_short 1 (header_records f.name f.value) (map_records fs) l))
    ∙ ap (λ (xs : List Field). f ∷ xs) (each_said fs texts.1 (rest_short (field_record f) (map_records fs) l))

pub map_good : (fs : List Field) → AreFields fs → AreGood map_fault (map_records fs)
map_good fs texts = each_good fs (recursion_from_All (λ f. IsUtf8 f.name) fs texts)

pub map_said : (fs : List Field) → AreFields fs → length (spelling (map_records fs)) < 2 ^ 64 → fields (map_records fs) ≡ fs
map_said fs texts l = each_said fs (recursion_from_All (λ f. IsUtf8 f.name) fs texts) l

-- ---- HeaderValueOption

action_free : (v : ℕ) → v ≤ 3 → (ltb (v % 2 ^ 32) 0 ≡ false) × (ltb 3 (v % 2 ^ 32) ≡ false)
action_free v h = (le-ltb (v % 2 ^ 32) 0 (omega arith), le-ltb 3 (v % 2 ^ 32) (omega arith))

pub set_good : (f : SetField) → IsSettable f → AreGood set_fault (set_records f)
set_good f h =
    let within = action_free f.action h.1 in (
      embedded_good set_fault header_fault 1 (header_records f.name f.value) (omega arith) (omega arith) (header_good f.name f.value h.0) (λ place start none. rw none refl),
      number_good set_fault 3 f.action (omega arith) (omega arith) (omega (arith, h.1)) (λ place start. rw (within.0, within.1) refl),
    )

set_of : (b name value : List ℕ) (action : ℕ) → field (entries b) ≡ record { name = name; value = value } → action ≤ 3 → set_field (present 1 b ∷ some_number 3 action) ≡ record { name = name; value = value; action = action }
set_of b name value zero h le =
    ap (λ es. record { name = (field es).name; value = (field es).value; action = 0 }) (append-nil (entries b)) ∙ ap (λ (x : Field). record { name = x.name; value = x.value; action = 0 }) h
set_of b name value (suc n) h le =
    let small : suc n % 2 ^ 32 ≡ suc n = omega arith in
    ap (λ es. record { name = (field es).name; value = (field es).value; action = suc n % 2 ^ 32 }) (append-nil (entries b))
    ∙ ap (λ (x : Field). record { name = x.name; value = x.value; action = suc n % 2 ^ 32 }) h
    ∙ ap (λ (a : ℕ). record { name = name; value = value; action = a }) small

set_again : (f : SetField) → IsSettable f → length (spelling (set_records f)) < 2 ^ 64 → set_field (entries (spelling (set_records f))) ≡ f
set_again f h l =
    ap set_field (same_again set_fault (set_records f) (set_good f h) l)
    ∙ set_of (spelling (header_records f.name f.value)) f.name f.value f.action (header_again f.name f.value h.0 (embedded_short 1 (header_records f.name f.value) (some_number 3 f.action) l)) h.1

-- ---- HeaderMutation

sets_good : (fs : List SetField) → AllByRecursion IsSettable fs → AreGood mutation_fault (map set_record fs)
sets_good [] h = tt
sets_good (f ∷ fs) h = (embedded_good mutation_fault set_fault 1 (set_records f) (omega arith) (omega arith) (set_good f h.0) (λ place start none. rw none refl), sets_good fs h.1)

removals_good : (names : List (List ℕ)) → AllByRecursion IsUtf8 names → AreGood mutation_fault (map removal_record names)
removals_good [] h = tt
removals_good (n ∷ names) h = (present_good mutation_fault 2 n (omega arith) (omega arith) (λ place start. rw (is_utf8-from_IsUtf8 n h.0) refl), removals_good names h.1)

pub mutation_good : (m : HeaderMutation) → IsMutation m → AreGood mutation_fault (mutation_records m)
mutation_good m h = good_append mutation_fault (map set_record m.set) (map removal_record m.remove) (sets_good m.set (recursion_from_All IsSettable m.set h.sets)) (removals_good m.remove (recursion_from_All IsUtf8 m.remove h.removes))

-- what the records of the items say
sets_said : (fs : List SetField) (es : List Entry) → AllByRecursion IsSettable fs → length (spelling (map set_record fs)) < 2 ^ 64 → spans 1 es ≡ [] → map (λ b. set_field (entries b)) (spans 1 (map set_record fs ++ es)) ≡ fs
sets_said [] es h l none = ap (map (λ b. set_field (entries b))) none
sets_said (f ∷ fs) es h l none =
    ap (λ (x : SetField). x ∷ map (λ b. set_field (entries b)) (spans 1 (map set_record fs ++ es))) (set_again f h.0 (embedded_short 1 (set_records f) (map set_record fs) l))
    ∙ ap (λ (xs : List SetField). f ∷ xs) (sets_said fs es h.1 (rest_short (set_record f) (map set_record fs) l) none)

no_sets : (names : List (List ℕ)) → spans 1 (map removal_record names) ≡ []
no_sets [] = refl
no_sets (n ∷ names) = no_sets names

removals_said : (fs : List SetField) (names : List (List ℕ)) → spans 2 (map set_record fs ++ map removal_record names) ≡ names
removals_said [] [] = refl
removals_said [] (n ∷ names) = ap (λ (xs : List (List ℕ)). n ∷ xs) (removals_said [] names)
removals_said (f ∷ fs) names = removals_said fs names

pub mutation_said : (m : HeaderMutation) → IsMutation m → length (spelling (mutation_records m)) < 2 ^ 64 → mutation (mutation_records m) ≡ m
mutation_said m h l =
    ap (λ (s : List SetField). record { set = s; remove = spans 2 (mutation_records m) }) (sets_said m.set (map removal_record m.remove) (recursion_from_All IsSettable m.set h.sets) (append_short (map set_record m.set) (map removal_record m.remove) l).0 (no_sets m.remove))
    ∙ ap (λ (r : List (List ℕ)). record { set = m.set; remove = r }) (removals_said m.set m.remove)
