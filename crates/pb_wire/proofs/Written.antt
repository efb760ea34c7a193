-- What is written is read again.
use Rattle.std.proofs.Common.{◌≡◌, ℕ, ◌+◌, ◌-◌, ◌*◌, ◌<◌, List, [], ◌∷◌, ◌++◌, length, Some, None, Ok, refl, sym, ap, subst, ◌∙◌, arith, length-append}
use Rattle.std.specs.List.{AllByRecursion}
use Rattle.pb_wire.specs.Records.{Entry, Spells, SpellsNumber, kind_of, Records}
use Rattle.pb_wire.specs.Cursor.{Placed, placed_at, next_at, some_of, start_before}
use Rattle.pb_wire.specs.Walk.{placed, wire_fault, entries}
use Rattle.pb_wire.specs.Canonical.{record_spelling, spelling, IsSpellable}
use Rattle.pb_wire.proofs.Spelled.{entry_again}
use Rattle.pb_wire.proofs.Next.{next_some}
use Rattle.pb_wire.proofs.Canonical.{entry_spells}
use Rattle.pb_wire.proofs.Walk.{placed_some, placed_none, fault_some, fault_none, entries_some, entries_none}

-- where a record of these bytes stands
abbrev pub stands : ℕ → List ℕ → List ℕ → Entry → Placed
stands end front rest e = record { place = end - length (front ++ rest); start = start_before (end - length rest) e.content; entry = e }

number_some : (bytes : List ℕ) (n : ℕ) → SpellsNumber bytes n → 0 < length bytes
number_some [] n h = absurd h
number_some (b ∷ bytes) n h = omega arith

spelled_some : (front : List ℕ) (e : Entry) → Spells front e → 0 < length front
spelled_some front e h = omega (arith, number_some h.tag (8 * e.number + kind_of e.content) h.is_tag.spells, ap length h.joined, length-append h.tag h.behind)

pub ended : (end : ℕ) → next_at end [] ≡ Ok None
unfolding next_at
ended end = refl

pub spelled_next : (end : ℕ) (front rest : List ℕ) (e : Entry) → Spells front e → next_at end (front ++ rest) ≡ Ok (Some (stands end front rest e, rest))
spelled_next end front rest e h =
    let some : 0 < length (front ++ rest) = omega (arith, spelled_some front e h, length-append front rest) in
    next_some end (front ++ rest) some ∙ ap (λ r. some_of (placed_at end (front ++ rest) r)) (entry_again front rest e h)

-- the joined spellings of records are read as these records
pub records_entries : (bytes : List ℕ) (es : List Entry) → Records bytes es → entries bytes ≡ es
records_entries bytes [] h = ap entries h ∙ entries_none 0 [] (ended 0)
records_entries bytes (e ∷ es) h =
    let r = records_entries h.1 es h.4 in
    ap entries h.3 ∙ entries_some (length (h.0 ++ h.1)) (h.0 ++ h.1) (stands (length (h.0 ++ h.1)) h.0 h.1 e) h.1 (spelled_next (length (h.0 ++ h.1)) h.0 h.1 e h.2) ∙ ap (λ s. e ∷ s) r

pub records_whole : (end : ℕ) (bytes : List ℕ) (es : List Entry) → Records bytes es → wire_fault end bytes ≡ None
records_whole end bytes [] h = ap (wire_fault end) h ∙ fault_none end [] (ended end)
records_whole end bytes (e ∷ es) h =
    ap (wire_fault end) h.3 ∙ fault_some end (h.0 ++ h.1) (stands end h.0 h.1 e) h.1 (spelled_next end h.0 h.1 e h.2) ∙ records_whole end h.1 es h.4

-- what holds of each record, wherever it stands, holds of those that stand here
pub records_placed : (P : Entry → Type 0) (end : ℕ) (bytes : List ℕ) (es : List Entry) → Records bytes es → AllByRecursion P es → AllByRecursion (λ p. P p.entry) (placed end bytes)
records_placed P end bytes [] h a = subst (λ ps. AllByRecursion (λ p. P p.entry) ps) (sym (ap (placed end) h ∙ placed_none end [] (ended end))) tt
records_placed P end bytes (e ∷ es) h a =
    subst (λ ps. AllByRecursion (λ p. P p.entry) ps) (sym (ap (placed end) h.3 ∙ placed_some end (h.0 ++ h.1) (stands end h.0 h.1 e) h.1 (spelled_next end h.0 h.1 e h.2)))
    (a.0, records_placed P end h.1 es h.4 a.1)

-- what is written is the joined spellings
pub spelling_records : (es : List Entry) → AllByRecursion IsSpellable es → Records (spelling es) es
unfolding spelling
spelling_records [] h = refl
spelling_records (e ∷ es) h = (record_spelling e, spelling es, entry_spells e h.0, refl, spelling_records es h.1)
