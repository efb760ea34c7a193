-- Records that were written are read again, and without a fault.
use Rattle.std.proofs.Common.{◌≡◌, ℕ, zero, suc, ◌+◌, ◌*◌, ◌^◌, ◌<◌, List, [], ◌∷◌, ◌++◌, length, length-append, Option, None, refl, ap, ◌∙◌, arith}
use Rattle.std.specs.List.{AllByRecursion, flat_map}
use Rattle.std.proofs.lemmas.List.{append-nil}
use Rattle.pb_wire.specs.Records.{Content, varint, fixed64, span, fixed32, Entry}
use Rattle.pb_wire.specs.Cursor.{Placed}
use Rattle.pb_wire.specs.Walk.{placed, entries}
use Rattle.pb_wire.specs.Canonical.{shortest, bytes_record, content_record, record_spelling, spelling, ContentFits, IsSpellable}
use Rattle.pb_wire.proofs.Walk.{entries_none}
use Rattle.pb_wire.proofs.Written.{ended, records_entries, records_whole, records_placed, spelling_records}
use Rattle.ext_msgs.specs.declared.fault.MsgFault.{MsgFault}
use Rattle.ext_msgs.specs.MessageFault.{◌else◌, first_of, first_fault}
use Rattle.ext_msgs.specs.Spelling.{present, filled, counted, some_number, embedded, some_embedded}
use Rattle.ext_msgs.proofs.Joined.{spelling-append, spelling_cons}

-- what a record needs beside the length of its bytes
abbrev pub NumberFits : Content → Type 0
NumberFits (varint n) = n < 2 ^ 64
NumberFits (fixed64 n) = n < 2 ^ 64
NumberFits (span bytes) = Unit {0}
NumberFits (fixed32 n) = n < 2 ^ 32

-- a record has no fault, wherever it stands
abbrev pub IsFree : (Placed → Option MsgFault) → Entry → Type 0
IsFree fault e = (place start : ℕ) → fault (record { place = place; start = start; entry = e }) ≡ None

-- a record that can be written, and is then without a fault as a field of the message
pub record IsGood (fault : Placed → Option MsgFault) (e : Entry) : Type 0 where
  pub low : 0 < e.number
  pub high : e.number < 2 ^ 29
  pub content : NumberFits e.content
  pub free : length (record_spelling e) < 2 ^ 64 → IsFree fault e

abbrev pub AreGood : (Placed → Option MsgFault) → List Entry → Type 0
AreGood fault es = AllByRecursion (IsGood fault) es

length_fits : (number : ℕ) (c : Content) → NumberFits c → length (content_record number c) < 2 ^ 64 → ContentFits c
unfolding content_record bytes_record
length_fits number (varint n) h l = h
length_fits number (fixed64 n) h l = h
length_fits number (span bytes) h l = omega (arith, length-append (shortest (8 * number + 2)) (shortest (length bytes) ++ bytes), length-append (shortest (length bytes)) bytes)
length_fits number (fixed32 n) h l = h

module _ (fault : Placed → Option MsgFault) where
  all_fit : (es : List Entry) → AreGood fault es → length (spelling es) < 2 ^ 64 → AllByRecursion IsSpellable es
  all_fit [] h l = tt
  all_fit (e ∷ es) h l =
      let len : length (spelling (e ∷ es)) ≡ length (record_spelling e) + length (spelling es) = ap length (spelling_cons e es) ∙ length-append (record_spelling e) (spelling es) in
      (record { low = h.0.low; high = h.0.high; content = length_fits e.number e.content h.0.content (omega (arith, len)) }, all_fit es h.1 (omega (arith, len)))

  all_free : (es : List Entry) → AreGood fault es → length (spelling es) < 2 ^ 64 → AllByRecursion (IsFree fault) es
  all_free [] h l = tt
  all_free (e ∷ es) h l =
      let len : length (spelling (e ∷ es)) ≡ length (record_spelling e) + length (spelling es) = ap length (spelling_cons e es) ∙ length-append (record_spelling e) (spelling es) in
      (h.0.free (omega (arith, len)), all_free es h.1 (omega (arith, len)))

  none_first : (ps : List Placed) → AllByRecursion (λ p. IsFree fault p.entry) ps → first_of fault ps ≡ None
  none_first [] h = refl
  none_first (p ∷ ps) h = ap (λ f. f else first_of fault ps) (h.0 p.place p.start) ∙ none_first ps h.1

  pub none_again : (es : List Entry) → AreGood fault es → length (spelling es) < 2 ^ 64 → (end : ℕ) → first_fault fault end (spelling es) ≡ None
  unfolding first_fault
  none_again es h l end =
      let r = spelling_records es (all_fit es h l) in
      rw (none_first (placed end (spelling es)) (records_placed (IsFree fault) end (spelling es) es r (all_free es h l)), records_whole end (spelling es) es r) refl

  pub same_again : (es : List Entry) → AreGood fault es → length (spelling es) < 2 ^ 64 → entries (spelling es) ≡ es
  same_again es h l = records_entries (spelling es) es (spelling_records es (all_fit es h l))

-- ---- the records of each kind of field

pub good_append : (fault : Placed → Option MsgFault) (es fs : List Entry) → AreGood fault es → AreGood fault fs → AreGood fault (es ++ fs)
good_append fault [] fs g h = h
good_append fault (e ∷ es) fs g h = (g.0, good_append fault es fs g.1 h)

pub present_good : (fault : Placed → Option MsgFault) (n : ℕ) (bytes : List ℕ) → 0 < n → n < 2 ^ 29 → IsFree fault (present n bytes) → IsGood fault (present n bytes)
present_good fault n bytes low high free = record { low = low; high = high; content = tt; free = λ _. free }

pub filled_good : (fault : Placed → Option MsgFault) (n : ℕ) (bytes : List ℕ) → 0 < n → n < 2 ^ 29 → IsFree fault (present n bytes) → AreGood fault (filled n bytes)
filled_good fault n [] low high free = tt
filled_good fault n (b ∷ bytes) low high free = (present_good fault n (b ∷ bytes) low high free, tt)

pub counted_good : (fault : Placed → Option MsgFault) (n v : ℕ) → 0 < n → n < 2 ^ 29 → v < 2 ^ 64 → IsFree fault (counted n v) → IsGood fault (counted n v)
counted_good fault n v low high fits free = record { low = low; high = high; content = fits; free = λ _. free }

pub number_good : (fault : Placed → Option MsgFault) (n v : ℕ) → 0 < n → n < 2 ^ 29 → v < 2 ^ 64 → IsFree fault (counted n v) → AreGood fault (some_number n v)
number_good fault n zero low high fits free = tt
number_good fault n (suc v) low high fits free = (counted_good fault n (suc v) low high fits free, tt)

-- the bytes of a message are shorter than a record of them
pub inner_short : (n : ℕ) (es : List Entry) → length (record_spelling (embedded n es)) < 2 ^ 64 → length (spelling es) < 2 ^ 64
unfolding content_record bytes_record
inner_short n es l = omega (arith, length-append (shortest (8 * n + 2)) (shortest (length (spelling es)) ++ spelling es), length-append (shortest (length (spelling es))) (spelling es))

-- an embedded message whose records are good is good where it has no fault as a field
abbrev pub Passes : (Placed → Option MsgFault) → (Placed → Option MsgFault) → ℕ → List Entry → Type 0
Passes outer inner n es = (place start : ℕ) → first_fault inner (start + length (spelling es)) (spelling es) ≡ None → outer (record { place = place; start = start; entry = embedded n es }) ≡ None

pub embedded_good : (outer inner : Placed → Option MsgFault) (n : ℕ) (es : List Entry) → 0 < n → n < 2 ^ 29 → AreGood inner es → Passes outer inner n es → IsGood outer (embedded n es)
embedded_good outer inner n es low high good passes =
    record { low = low; high = high; content = tt; free = λ l place start. passes place start (none_again inner es good (inner_short n es l) (start + length (spelling es))) }

pub some_embedded_good : (outer inner : Placed → Option MsgFault) (n : ℕ) (es : List Entry) → 0 < n → n < 2 ^ 29 → AreGood inner es → Passes outer inner n es → AreGood outer (some_embedded n es)
some_embedded_good outer inner n es low high good passes = by_bytes (spelling es) (embedded_good outer inner n es low high good passes)
  where
    by_bytes : (bytes : List ℕ) → IsGood outer (present n bytes) → AreGood outer (filled n bytes)
    by_bytes [] h = tt
    by_bytes (b ∷ bytes) h = (h, tt)

-- ---- the length of what stands in a list of records

pub first_short : (e : Entry) (es : List Entry) → length (spelling (e ∷ es)) < 2 ^ 64 → length (record_spelling e) < 2 ^ 64
first_short e es l = omega (arith, ap length (spelling_cons e es), length-append (record_spelling e) (spelling es))

pub rest_short : (e : Entry) (es : List Entry) → length (spelling (e ∷ es)) < 2 ^ 64 → length (spelling es) < 2 ^ 64
rest_short e es l = omega (arith, ap length (spelling_cons e es), length-append (record_spelling e) (spelling es))

-- ---- what is inside a field that occurs once, or not at all

pub entries_nil : entries [] ≡ []
entries_nil = entries_none 0 [] (ended 0)

pub inside_one : (bytes : List ℕ) → flat_map entries (bytes ∷ []) ≡ entries bytes
inside_one bytes = append-nil (entries bytes)

pub append_short : (es fs : List Entry) → length (spelling (es ++ fs)) < 2 ^ 64 → (length (spelling es) < 2 ^ 64) × (length (spelling fs) < 2 ^ 64)
append_short es fs l = let len = ap length (spelling-append es fs) ∙ length-append (spelling es) (spelling fs) in (omega (arith, len), omega (arith, len))

pub embedded_short : (n : ℕ) (es fs : List Entry) → length (spelling (embedded n es ∷ fs)) < 2 ^ 64 → length (spelling es) < 2 ^ 64
embedded_short n es fs l = inner_short n es (first_short (embedded n es) fs l)

pub some_embedded_short : (n : ℕ) (es : List Entry) → length (spelling (some_embedded n es)) < 2 ^ 64 → length (spelling es) < 2 ^ 64
some_embedded_short n es l = by_bytes (spelling es) (λ k. inner_short n es k) l
  where
    by_bytes : (bytes : List ℕ) → (length (record_spelling (present n bytes)) < 2 ^ 64 → length bytes < 2 ^ 64) → length (spelling (filled n bytes)) < 2 ^ 64 → length bytes < 2 ^ 64
    by_bytes [] h k = omega arith
    by_bytes (b ∷ bytes) h k = h (first_short (present n (b ∷ bytes)) [] k)
