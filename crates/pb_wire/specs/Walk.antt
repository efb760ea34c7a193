-- All records of some bytes, and the fault that ends them.
use Rattle.std.specs.Prelude.{ℕ, zero, suc, List, [], ◌∷◌, length, map, Option, Some, None, Result, Ok, Err}
use Rattle.pb_wire.specs.declared.fault.WireFault.{WireFault}
use Rattle.pb_wire.specs.Records.{Entry}
use Rattle.pb_wire.specs.Cursor.{Placed, next_at}

abbrev pub before_rest : Result (Option (Placed × List ℕ)) WireFault → (List ℕ → List Placed) → List Placed
before_rest (Ok (Some x)) rest = x.0 ∷ rest x.1
before_rest (Ok None) rest = []
before_rest (Err f) rest = []

abbrev pub or_in_rest : Result (Option (Placed × List ℕ)) WireFault → (List ℕ → Option WireFault) → Option WireFault
or_in_rest (Ok (Some x)) rest = rest x.1
or_in_rest (Ok None) rest = None
or_in_rest (Err f) rest = Some f

-- at most so many records of bytes that end at end
unfoldable pub placed_within : ℕ → ℕ → List ℕ → List Placed
placed_within zero end bytes = []
placed_within (suc n) end bytes = before_rest (next_at end bytes) (placed_within n end)

unfoldable pub fault_within : ℕ → ℕ → List ℕ → Option WireFault
fault_within zero end bytes = None
fault_within (suc n) end bytes = or_in_rest (next_at end bytes) (fault_within n end)

-- The records of bytes that end at end, up to the first fault. A record has a byte, so there are no more than bytes.
unfoldable pub placed : ℕ → List ℕ → List Placed
placed end bytes = placed_within (length bytes) end bytes

-- the fault that ends them, if they don't reach the end
unfoldable pub wire_fault : ℕ → List ℕ → Option WireFault
wire_fault end bytes = fault_within (length bytes) end bytes

-- the same without places
unfoldable pub entries : List ℕ → List Entry
entries bytes = map (λ p. p.entry) (placed (length bytes) bytes)
