-- The walk gives exactly the records and the first fault.
use Rattle.std.proofs.Common.{◌≡◌, ℕ, zero, suc, ◌-◌, ◌<◌, ◌≤◌, List, [], ◌∷◌, ◌++◌, length, Option, Some, None, Result, Ok, Err, refl, sym, ap, subst, ◌∙◌, append_assoc, arith, inl, inr, ◌⊎◌}
use Rattle.pb_wire.specs.declared.fault.Cause.{Cause}
use Rattle.pb_wire.specs.declared.fault.WireFault.{WireFault}
use Rattle.pb_wire.specs.declared.reader.Record.{Record}
use Rattle.pb_wire.specs.Records.{Entry, Records, FirstFault}
use Rattle.pb_wire.specs.Reading.{entry_at, fault_at}
use Rattle.pb_wire.specs.Cursor.{Placed, placed_at, next_at, some_of, start_before, Cursor, given, Nexts}
use Rattle.pb_wire.specs.Walk.{entries, wire_fault}
use Rattle.pb_wire.specs.Parts.{AreRecords, AreRefused}
use Rattle.pb_wire.proofs.Spelled.{entry_takes}
use Rattle.pb_wire.proofs.Next.{next_some, shorter}
use Rattle.pb_wire.proofs.Walk.{entries_some, entries_none, entries_err, fault_some, fault_none, fault_err}
use Rattle.pb_wire.proofs.Written.{ended, stands, spelled_next, records_entries, records_whole}
use Rattle.pb_wire.proofs.Faults.{entry_fault, fault_again}

abbrev Parted : ℕ → List ℕ → Type 0
Parted end bytes = AreRecords end bytes ⊎ AreRefused end bytes

at_fault : (end : ℕ) (bytes : List ℕ) (c : Cause) → 0 < length bytes → entry_at bytes ≡ Err c → AreRefused end bytes
at_fault end bytes c some e =
    let step : next_at end bytes ≡ Err (fault_at (end - length bytes) c) = next_some end bytes some ∙ ap (λ r. some_of (placed_at end bytes r)) e in
    record { front = []; rest = bytes; cause = c; parts = refl; records = subst (Records []) (sym (entries_err end bytes (fault_at (end - length bytes) c) step)) refl; some = some; first = entry_fault bytes c e; refused = fault_err end bytes (fault_at (end - length bytes) c) step }

goes_on : (end : ℕ) (bytes : List ℕ) (x : Entry × List ℕ) → 0 < length bytes → entry_at bytes ≡ Ok x → Parted end x.1 → Parted end bytes
goes_on end bytes x some e more =
    let p : Placed = record { place = end - length bytes; start = start_before (end - length x.1) x.0.content; entry = x.0 } in
    let step : next_at end bytes ≡ Ok (Some (p, x.1)) = next_some end bytes some ∙ ap (λ r. some_of (placed_at end bytes r)) e in
    let t = entry_takes bytes x e in
    let es : entries bytes ≡ x.0 ∷ entries x.1 = entries_some end bytes p x.1 step in
    let f : wire_fault end bytes ≡ wire_fault end x.1 = fault_some end bytes p x.1 step in
    elim more [
      | inl a ↦ inl (record { records = subst (Records bytes) (sym es) (t.0, x.1, t.1, t.2, a.records); whole = f ∙ a.whole })
      | inr r ↦ inr (record {
        front = t.0 ++ r.front;
        rest = r.rest;
        cause = r.cause;
        parts = t.2 ∙ ap (λ s. t.0 ++ s) r.parts ∙ sym (append_assoc t.0 r.front r.rest);
        records = subst (Records (t.0 ++ r.front)) (sym es) (t.0, r.front, t.1, refl, r.records);
        some = r.some;
        first = r.first;
        refused = f ∙ r.refused;
      })
    ]

parts_within : (n end : ℕ) (bytes : List ℕ) → length bytes ≤ n → Parted end bytes
parts_within n end [] h = inl (record { records = subst (Records []) (sym (entries_none end [] (ended end))) refl; whole = fault_none end [] (ended end) })
parts_within zero end (b ∷ bytes) h = absurd (omega arith)
parts_within (suc n) end (b ∷ bytes) h = by_entry (entry_at (b ∷ bytes)) refl (λ x e. parts_within n end x.1 (omega (arith, shorter (b ∷ bytes) x e)))
  where
    by_entry : (r : Result (Entry × List ℕ) Cause) → entry_at (b ∷ bytes) ≡ r → ((x : Entry × List ℕ) → entry_at (b ∷ bytes) ≡ Ok x → Parted end x.1) → Parted end (b ∷ bytes)
    by_entry (Ok x) e more = goes_on end (b ∷ bytes) x (omega arith) e (more x e)
    by_entry (Err c) e more = inr (at_fault end (b ∷ bytes) c (omega arith) e)

-- any bytes are the one or the other
pub parts_are : (end : ℕ) (bytes : List ℕ) → AreRecords end bytes ⊎ AreRefused end bytes
parts_are end bytes = parts_within (length bytes) end bytes (omega arith)

-- bytes have one list of records at most, and then no fault
pub one_list : (end : ℕ) (bytes : List ℕ) (es : List Entry) → Records bytes es → (entries bytes ≡ es) × (wire_fault end bytes ≡ None)
one_list end bytes es h = (records_entries bytes es h, records_whole end bytes es h)

-- a fault behind records is the first
pub one_fault : (end : ℕ) (front rest : List ℕ) (es : List Entry) (c : Cause) → Records front es → 0 < length rest → FirstFault rest c → (entries (front ++ rest) ≡ es) × (wire_fault end (front ++ rest) ≡ Some (fault_at (end - length rest) c))
one_fault end front rest [] c h some f =
    let step : (last : ℕ) → next_at last rest ≡ Err (fault_at (last - length rest) c) = λ last. next_some last rest some ∙ ap (λ r. some_of (placed_at last rest r)) (fault_again rest c f) in
    let whole : front ++ rest ≡ rest = ap (λ (s : List ℕ). s ++ rest) h in
    (ap entries whole ∙ entries_err 0 rest (fault_at (0 - length rest) c) (step 0), ap (wire_fault end) whole ∙ fault_err end rest (fault_at (end - length rest) c) (step end))
one_fault end front rest (e ∷ es) c h some f =
    let more = one_fault end h.1 rest es c h.4 some f in
    let whole : front ++ rest ≡ h.0 ++ (h.1 ++ rest) = ap (λ (s : List ℕ). s ++ rest) h.3 ∙ append_assoc h.0 h.1 rest in (
      ap entries whole ∙ entries_some 0 (h.0 ++ (h.1 ++ rest)) (stands 0 h.0 (h.1 ++ rest) e) (h.1 ++ rest) (spelled_next 0 h.0 (h.1 ++ rest) e h.2) ∙ ap (λ s. e ∷ s) more.0,
      ap (wire_fault end) whole ∙ fault_some end (h.0 ++ (h.1 ++ rest)) (stands end h.0 (h.1 ++ rest) e) (h.1 ++ rest) (spelled_next end h.0 (h.1 ++ rest) e h.2) ∙ more.1,
    )

-- a reader that failed gives its fault again
pub stays : (first second third : Cursor) (fault : WireFault) (r : Result (Option Record) WireFault) → Nexts first second (Err fault) → Nexts second third r → r ≡ Err fault
stays first second third fault r n m = by_result r m
  where
    told : given second ≡ Err fault
    told = ap given n.1

    by_result : (r : Result (Option Record) WireFault) → Nexts second third r → r ≡ Err fault
    by_result (Err other) m = let same = sym m.0 ∙ told in let is : other ≡ fault = cc in ap Err is
    by_result (Ok None) m = let same = sym m.0 ∙ told in absurd cc
    by_result (Ok (Some x)) m = let same = sym m.0 ∙ told in absurd cc
