-- What passed a reader's tests can be written: texts are texts, and numbers are within bounds.
use Rattle.std.proofs.Common.{◌≡◌, ℕ, ◌+◌, ◌≤◌, Bool, true, false, cond, ltb, List, [], ◌∷◌, ◌++◌, length, map, Option, Some, None, refl, sym, ap, subst, ◌∙◌, arith}
use Rattle.std.specs.List.{AllByRecursion, flat_map, cons_option}
use Rattle.std.specs.Prelude.{option_map, option_and_then}
use Rattle.std.specs.Str.{IsUtf8, is_utf8}
use Rattle.std.proofs.lemmas.Bool.{ltb-false}
use Rattle.std.proofs.lemmas.Str.{IsUtf8-nil, IsUtf8-from_is_utf8}
use Rattle.std.proofs.lemmas.List.Elements.{All-from_recursion}
use Rattle.pb_wire.specs.Records.{Entry}
use Rattle.pb_wire.specs.Cursor.{Placed}
use Rattle.pb_wire.specs.Walk.{placed, entries, wire_fault}
use Rattle.pb_wire.proofs.Walk.{entries_are}
use Rattle.ext_msgs.specs.declared.fault.MsgFault.{MsgFault}
use Rattle.ext_msgs.specs.declared.fault.MsgFault.TheVariants.{Wire, Utf8, BadNumber}
use Rattle.ext_msgs.specs.Fields.{span_at, varint_at, spans, varints, last_or, bytes_of, number_of, inside, low}
use Rattle.ext_msgs.specs.MessageFault.{◌else◌, first_of, first_fault, text_fault, text, number_within, message, header_fault, map_fault, set_fault, mutation_fault}
use Rattle.ext_msgs.specs.MessageValue.{field, fields, action_of, set_field, mutation}
use Rattle.ext_msgs.specs.Writable.{AreFields, IsSettable, IsMutation}

-- ---- records without a fault

pub none_left : {A : Type 0} (a b : Option A) → a else b ≡ None → a ≡ None
none_left None b h = refl
none_left (Some x) b h = absurd cc

pub none_right : {A : Type 0} (a b : Option A) → a else b ≡ None → b ≡ None
none_right None b h = h
none_right (Some x) b h = absurd cc

-- a record that has no fault where it stands
abbrev pub IsClear : (Placed → Option MsgFault) → Entry → Type 0
IsClear fault e = (place start : ℕ) × (fault (record { place = place; start = start; entry = e }) ≡ None)

abbrev pub AreClear : (Placed → Option MsgFault) → List Entry → Type 0
AreClear fault es = AllByRecursion (IsClear fault) es

module _ (fault : Placed → Option MsgFault) where
  clear_placed : (ps : List Placed) → first_of fault ps ≡ None → AreClear fault (map (λ p. p.entry) ps)
  clear_placed [] h = tt
  clear_placed (p ∷ ps) h = ((p.place, p.start, none_left (fault p) (first_of fault ps) h), clear_placed ps (none_right (fault p) (first_of fault ps) h))

  pub clear_entries : (end : ℕ) (bytes : List ℕ) → first_fault fault end bytes ≡ None → AreClear fault (entries bytes)
  unfolding first_fault
  clear_entries end bytes h =
      subst (AreClear fault) (sym (entries_are end bytes)) (clear_placed (placed end bytes) (none_left (first_of fault (placed end bytes)) (option_map Wire (wire_fault end bytes)) h))

clear_append : (fault : Placed → Option MsgFault) (es fs : List Entry) → AreClear fault es → AreClear fault fs → AreClear fault (es ++ fs)
clear_append fault [] fs h k = k
clear_append fault (e ∷ es) fs h k = (h.0, clear_append fault es fs h.1 k)

-- ---- what that says of each kind of field

-- the message's faults have those of a field among them
abbrev pub Has : (Placed → Option MsgFault) → (Placed → Option MsgFault) → Type 0
Has fault part = (p : Placed) → fault p ≡ None → part p ≡ None

module _ (fault inner : Placed → Option MsgFault) (n : ℕ) (has : Has fault (message n inner)) where
  pub clear_spans : (es : List Entry) → AreClear fault es → AllByRecursion (λ b. AreClear inner (entries b)) (spans n es)
  clear_spans [] h = tt
  clear_spans (e ∷ es) h = by_span (span_at n e) refl (clear_spans es h.1)
    where
      by_span : (o : Option (List ℕ)) → span_at n e ≡ o → AllByRecursion (λ b. AreClear inner (entries b)) (spans n es) → AllByRecursion (λ b. AreClear inner (entries b)) (cons_option o (spans n es))
      by_span None q more = more
      by_span (Some b) q more =
          let none : message n inner (record { place = h.0.0; start = h.0.1; entry = e }) ≡ None = has (record { place = h.0.0; start = h.0.1; entry = e }) h.0.2 in
          let first : first_fault inner (h.0.1 + length b) b ≡ None = sym (ap (option_and_then (λ bytes. first_fault inner (h.0.1 + length bytes) bytes)) q) ∙ none in
          (clear_entries inner (h.0.1 + length b) b first, more)

  joined_clear : (bs : List (List ℕ)) → AllByRecursion (λ b. AreClear inner (entries b)) bs → AreClear inner (flat_map entries bs)
  joined_clear [] h = tt
  joined_clear (b ∷ bs) h = clear_append inner (entries b) (flat_map entries bs) h.0 (joined_clear bs h.1)

  pub clear_inside : (es : List Entry) → AreClear fault es → AreClear inner (inside n es)
  clear_inside es h = joined_clear (spans n es) (clear_spans es h)

text_passes : (place : ℕ) (bytes : List ℕ) → text_fault place bytes ≡ None → IsUtf8 bytes
text_passes place bytes h = IsUtf8-from_is_utf8 bytes (by_test (is_utf8 bytes) h)
  where
    by_test : (t : Bool) → cond t None (Some (Utf8 place)) ≡ None → t ≡ true
    by_test true h = refl
    by_test false h = absurd cc

pub clear_texts : (fault : Placed → Option MsgFault) (n : ℕ) → Has fault (text n) → (es : List Entry) → AreClear fault es → AllByRecursion IsUtf8 (spans n es)
clear_texts fault n has [] h = tt
clear_texts fault n has (e ∷ es) h = by_span (span_at n e) refl (clear_texts fault n has es h.1)
  where
    by_span : (o : Option (List ℕ)) → span_at n e ≡ o → AllByRecursion IsUtf8 (spans n es) → AllByRecursion IsUtf8 (cons_option o (spans n es))
    by_span None q more = more
    by_span (Some b) q more =
        let none : text n (record { place = h.0.0; start = h.0.1; entry = e }) ≡ None = has (record { place = h.0.0; start = h.0.1; entry = e }) h.0.2 in
        (text_passes h.0.0 b (sym (ap (option_and_then (text_fault h.0.0)) q) ∙ none), more)

abbrev pub IsWithin : ℕ → ℕ → ℕ → Type 0
IsWithin least most v = (least ≤ low v) × (low v ≤ most)

number_passes : (place least most v : ℕ) → cond (ltb (low v) least) (Some (BadNumber place)) (cond (ltb most (low v)) (Some (BadNumber place)) None) ≡ None → IsWithin least most v
number_passes place least most v h = by_tests (ltb (low v) least) (ltb most (low v)) refl refl h
  where
    by_tests : (s t : Bool) → ltb (low v) least ≡ s → ltb most (low v) ≡ t → cond s (Some (BadNumber place)) (cond t (Some (BadNumber place)) None) ≡ None → IsWithin least most v
    by_tests true t p q h = absurd cc
    by_tests false true p q h = absurd cc
    by_tests false false p q h = (ltb-false (low v) least p, ltb-false most (low v) q)

pub clear_numbers : (fault : Placed → Option MsgFault) (n least most : ℕ) → Has fault (number_within n least most) → (es : List Entry) → AreClear fault es → AllByRecursion (IsWithin least most) (varints n es)
clear_numbers fault n least most has [] h = tt
clear_numbers fault n least most has (e ∷ es) h = by_number (varint_at n e) refl (clear_numbers fault n least most has es h.1)
  where
    by_number : (o : Option ℕ) → varint_at n e ≡ o → AllByRecursion (IsWithin least most) (varints n es) → AllByRecursion (IsWithin least most) (cons_option o (varints n es))
    by_number None q more = more
    by_number (Some v) q more =
        let p : Placed = record { place = h.0.0; start = h.0.1; entry = e } in
        let none : number_within n least most p ≡ None = has p h.0.2 in
        (number_passes h.0.0 least most v (sym (ap (option_and_then (λ v. cond (ltb (low v) least) (Some (BadNumber h.0.0)) (cond (ltb most (low v)) (Some (BadNumber h.0.0)) None))) q) ∙ none), more)

-- the last of some that hold, or a default that holds
pub last_holds : {A : Type 0} (P : A → Type 0) (d : A) (xs : List A) → P d → AllByRecursion P xs → P (last_or d xs)
last_holds P d [] h a = h
last_holds P d (x ∷ xs) h a = last_holds P x xs a.0 a.1

-- ---- fields and mutations

name_text : (es : List Entry) → AreClear header_fault es → IsUtf8 (bytes_of 1 es)
name_text es h = last_holds IsUtf8 [] (spans 1 es) IsUtf8-nil (clear_texts header_fault 1 (λ p k. none_left (text 1 p) (text 2 p) k) es h)

each_name : (bs : List (List ℕ)) → AllByRecursion (λ b. AreClear header_fault (entries b)) bs → AllByRecursion (λ f. IsUtf8 f.name) (map (λ b. field (entries b)) bs)
each_name [] h = tt
each_name (b ∷ bs) h = (name_text (entries b) h.0, each_name bs h.1)

pub fields_texts : (es : List Entry) → AreClear map_fault es → AreFields (fields es)
fields_texts es h = All-from_recursion (λ f. IsUtf8 f.name) (fields es) (each_name (spans 1 es) (clear_spans map_fault header_fault 1 (λ p k. k) es h))

action_within : (bs : List (List ℕ)) (append : Bool) (action : ℕ) → action ≤ 3 → action_of bs append action ≤ 3
action_within [] append action h = h
action_within (b ∷ bs) true action h = omega arith
action_within (b ∷ bs) false action h = omega arith

settable : (es : List Entry) → AreClear set_fault es → IsSettable (set_field es)
settable es h =
    let numbers = clear_numbers set_fault 3 0 3 (λ p k. none_right (message 2 (λ q. None) p) (number_within 3 0 3 p) (none_right (message 1 header_fault p) (message 2 (λ q. None) p else number_within 3 0 3 p) k)) es h in
    let action : low (number_of 3 es) ≤ 3 = (last_holds (IsWithin 0 3) 0 (varints 3 es) (omega arith, omega arith) numbers).1 in (
      name_text (inside 1 es) (clear_inside set_fault header_fault 1 (λ p k. none_left (message 1 header_fault p) (message 2 (λ q. None) p else number_within 3 0 3 p) k) es h),
      action_within (spans 2 es) _ (low (number_of 3 es)) action,
    )

each_set : (bs : List (List ℕ)) → AllByRecursion (λ b. AreClear set_fault (entries b)) bs → AllByRecursion IsSettable (map (λ b. set_field (entries b)) bs)
each_set [] h = tt
each_set (b ∷ bs) h = (settable (entries b) h.0, each_set bs h.1)

pub mutation_is : (es : List Entry) → AreClear mutation_fault es → IsMutation (mutation es)
mutation_is es h = record {
  sets = All-from_recursion IsSettable (mutation es).set (each_set (spans 1 es) (clear_spans mutation_fault set_fault 1 (λ p k. none_left (message 1 set_fault p) (text 2 p) k) es h));
  removes = All-from_recursion IsUtf8 (mutation es).remove (clear_texts mutation_fault 2 (λ p k. none_right (message 1 set_fault p) (text 2 p) k) es h);
}
