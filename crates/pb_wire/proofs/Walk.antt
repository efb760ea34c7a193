-- One step along the records of some bytes.
use Rattle.std.proofs.Common.{◌≡◌, ℕ, zero, suc, ◌-◌, ◌<◌, ◌≤◌, List, [], ◌∷◌, length, map, Option, Some, None, Result, Ok, Err, refl, sym, ap, subst, ◌∙◌, arith}
use Rattle.pb_wire.specs.declared.fault.WireFault.{WireFault}
use Rattle.pb_wire.specs.declared.fault.Cause.{Cause}
use Rattle.pb_wire.specs.Records.{Entry}
use Rattle.pb_wire.specs.Reading.{entry_at}
use Rattle.pb_wire.specs.Cursor.{Placed, placed_at, next_at, some_of, start_before}
use Rattle.pb_wire.specs.Walk.{before_rest, or_in_rest, placed_within, fault_within, placed, wire_fault, entries}
use Rattle.pb_wire.proofs.Next.{shorter}

abbrev Step : Type 0
Step = Result (Option (Placed × List ℕ)) WireFault

abbrev told : Placed × List ℕ → Step
told a = Ok (Some a)

pub same_told : (a b : Placed × List ℕ) → told a ≡ told b → a ≡ b
same_told a b e = cc

shrinks_by : (end : ℕ) (bytes : List ℕ) (r : Result (Entry × List ℕ) Cause) (p : Placed) (rest : List ℕ) → ((x : Entry × List ℕ) → r ≡ Ok x → length x.1 < length bytes) → some_of (placed_at end bytes r) ≡ Ok (Some (p, rest)) → length rest < length bytes
shrinks_by end bytes (Err c) p rest h e = absurd cc
shrinks_by end bytes (Ok x) p rest h e =
    let same = same_told (record { place = end - length bytes; start = start_before (end - length x.1) x.0.content; entry = x.0 }, x.1) (p, rest) e in
    subst (λ (s : List ℕ). length s < length bytes) (ap (λ (q : Placed × List ℕ). q.1) same) (h x refl)

-- a step of reading takes a byte
shrinks : (end : ℕ) (bytes : List ℕ) (p : Placed) (rest : List ℕ) → next_at end bytes ≡ Ok (Some (p, rest)) → length rest < length bytes
unfolding next_at
shrinks end [] p rest e = absurd cc
shrinks end (b ∷ bytes) p rest e = shrinks_by end (b ∷ bytes) (entry_at (b ∷ bytes)) p rest (shorter (b ∷ bytes)) e

module _ (s : Step) where
  same_before : (f g : List ℕ → List Placed) → ((p : Placed) (rest : List ℕ) → s ≡ Ok (Some (p, rest)) → f rest ≡ g rest) → before_rest s f ≡ before_rest s g
  same_before f g h = by_cases s h
    where
      by_cases : (t : Step) → ((p : Placed) (rest : List ℕ) → t ≡ Ok (Some (p, rest)) → f rest ≡ g rest) → before_rest t f ≡ before_rest t g
      by_cases (Ok (Some x)) h = ap (λ ps. x.0 ∷ ps) (h x.0 x.1 refl)
      by_cases (Ok None) h = refl
      by_cases (Err c) h = refl

  same_in : (f g : List ℕ → Option WireFault) → ((p : Placed) (rest : List ℕ) → s ≡ Ok (Some (p, rest)) → f rest ≡ g rest) → or_in_rest s f ≡ or_in_rest s g
  same_in f g h = by_cases s h
    where
      by_cases : (t : Step) → ((p : Placed) (rest : List ℕ) → t ≡ Ok (Some (p, rest)) → f rest ≡ g rest) → or_in_rest t f ≡ or_in_rest t g
      by_cases (Ok (Some x)) h = h x.0 x.1 refl
      by_cases (Ok None) h = refl
      by_cases (Err c) h = refl

-- more fuel than bytes changes nothing
placed_fuel : (n m end : ℕ) (bytes : List ℕ) → length bytes ≤ n → length bytes ≤ m → placed_within n end bytes ≡ placed_within m end bytes
unfolding placed_within next_at
placed_fuel zero zero end bytes h k = refl
placed_fuel zero (suc m) end [] h k = refl
placed_fuel zero (suc m) end (b ∷ bytes) h k = absurd (omega arith)
placed_fuel (suc n) zero end [] h k = refl
placed_fuel (suc n) zero end (b ∷ bytes) h k = absurd (omega arith)
placed_fuel (suc n) (suc m) end bytes h k = same_before (next_at end bytes) (placed_within n end) (placed_within m end) (λ p rest e. placed_fuel n m end rest (omega (arith, shrinks end bytes p rest e)) (omega (arith, shrinks end bytes p rest e)))

fault_fuel : (n m end : ℕ) (bytes : List ℕ) → length bytes ≤ n → length bytes ≤ m → fault_within n end bytes ≡ fault_within m end bytes
unfolding fault_within next_at
fault_fuel zero zero end bytes h k = refl
fault_fuel zero (suc m) end [] h k = refl
fault_fuel zero (suc m) end (b ∷ bytes) h k = absurd (omega arith)
fault_fuel (suc n) zero end [] h k = refl
fault_fuel (suc n) zero end (b ∷ bytes) h k = absurd (omega arith)
fault_fuel (suc n) (suc m) end bytes h k = same_in (next_at end bytes) (fault_within n end) (fault_within m end) (λ p rest e. fault_fuel n m end rest (omega (arith, shrinks end bytes p rest e)) (omega (arith, shrinks end bytes p rest e)))

-- the first step, and those in the rest
pub placed_step : (end : ℕ) (bytes : List ℕ) → placed end bytes ≡ before_rest (next_at end bytes) (placed end)
unfolding placed placed_within
placed_step end bytes =
    placed_fuel (length bytes) (suc (length bytes)) end bytes (omega arith) (omega arith)
    ∙ same_before (next_at end bytes) (placed_within (length bytes) end) (λ rest. placed_within (length rest) end rest) (λ p rest e. placed_fuel (length bytes) (length rest) end rest (omega (arith, shrinks end bytes p rest e)) (omega arith))

pub fault_step : (end : ℕ) (bytes : List ℕ) → wire_fault end bytes ≡ or_in_rest (next_at end bytes) (wire_fault end)
unfolding wire_fault fault_within
fault_step end bytes =
    fault_fuel (length bytes) (suc (length bytes)) end bytes (omega arith) (omega arith)
    ∙ same_in (next_at end bytes) (fault_within (length bytes) end) (λ rest. fault_within (length rest) end rest) (λ p rest e. fault_fuel (length bytes) (length rest) end rest (omega (arith, shrinks end bytes p rest e)) (omega arith))

-- entries don't depend on where the bytes end
abbrev bare : List Placed → List Entry
bare ps = map (λ p. p.entry) ps

moved_by : (end last : ℕ) (bytes : List ℕ) (r : Result (Entry × List ℕ) Cause) (f g : List ℕ → List Placed) → ((rest : List ℕ) → bare (f rest) ≡ bare (g rest)) → bare (before_rest (some_of (placed_at end bytes r)) f) ≡ bare (before_rest (some_of (placed_at last bytes r)) g)
moved_by end last bytes (Ok x) f g h = ap (λ es. x.0 ∷ es) (h x.1)
moved_by end last bytes (Err c) f g h = refl

moved_step : (end last : ℕ) (bytes : List ℕ) (f g : List ℕ → List Placed) → ((rest : List ℕ) → bare (f rest) ≡ bare (g rest)) → bare (before_rest (next_at end bytes) f) ≡ bare (before_rest (next_at last bytes) g)
unfolding next_at
moved_step end last [] f g h = refl
moved_step end last (b ∷ bytes) f g h = moved_by end last (b ∷ bytes) (entry_at (b ∷ bytes)) f g h

moved : (n end last : ℕ) (bytes : List ℕ) → bare (placed_within n end bytes) ≡ bare (placed_within n last bytes)
unfolding placed_within
moved zero end last bytes = refl
moved (suc n) end last bytes = moved_step end last bytes (placed_within n end) (placed_within n last) (moved n end last)

pub entries_are : (end : ℕ) (bytes : List ℕ) → entries bytes ≡ bare (placed end bytes)
unfolding entries placed
entries_are end bytes = moved (length bytes) (length bytes) end bytes

-- ---- by what a step gives

pub placed_some : (end : ℕ) (bytes : List ℕ) (p : Placed) (rest : List ℕ) → next_at end bytes ≡ Ok (Some (p, rest)) → placed end bytes ≡ p ∷ placed end rest
placed_some end bytes p rest e = placed_step end bytes ∙ ap (λ s. before_rest s (placed end)) e

pub placed_none : (end : ℕ) (bytes : List ℕ) → next_at end bytes ≡ Ok None → placed end bytes ≡ []
placed_none end bytes e = placed_step end bytes ∙ ap (λ s. before_rest s (placed end)) e

pub placed_err : (end : ℕ) (bytes : List ℕ) (f : WireFault) → next_at end bytes ≡ Err f → placed end bytes ≡ []
placed_err end bytes f e = placed_step end bytes ∙ ap (λ s. before_rest s (placed end)) e

pub fault_some : (end : ℕ) (bytes : List ℕ) (p : Placed) (rest : List ℕ) → next_at end bytes ≡ Ok (Some (p, rest)) → wire_fault end bytes ≡ wire_fault end rest
fault_some end bytes p rest e = fault_step end bytes ∙ ap (λ s. or_in_rest s (wire_fault end)) e

pub fault_none : (end : ℕ) (bytes : List ℕ) → next_at end bytes ≡ Ok None → wire_fault end bytes ≡ None
fault_none end bytes e = fault_step end bytes ∙ ap (λ s. or_in_rest s (wire_fault end)) e

pub fault_err : (end : ℕ) (bytes : List ℕ) (f : WireFault) → next_at end bytes ≡ Err f → wire_fault end bytes ≡ Some f
fault_err end bytes f e = fault_step end bytes ∙ ap (λ s. or_in_rest s (wire_fault end)) e

pub entries_some : (end : ℕ) (bytes : List ℕ) (p : Placed) (rest : List ℕ) → next_at end bytes ≡ Ok (Some (p, rest)) → entries bytes ≡ p.entry ∷ entries rest
entries_some end bytes p rest e = entries_are end bytes ∙ ap bare (placed_some end bytes p rest e) ∙ ap (λ es. p.entry ∷ es) (sym (entries_are end rest))

pub entries_none : (end : ℕ) (bytes : List ℕ) → next_at end bytes ≡ Ok None → entries bytes ≡ []
entries_none end bytes e = entries_are end bytes ∙ ap bare (placed_none end bytes e)

pub entries_err : (end : ℕ) (bytes : List ℕ) (f : WireFault) → next_at end bytes ≡ Err f → entries bytes ≡ []
entries_err end bytes f e = entries_are end bytes ∙ ap bare (placed_err end bytes f e)
