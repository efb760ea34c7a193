-- Any bytes are records, and then nothing or a record that is at fault.
use Rattle.std.specs.Prelude.{◌≡◌, ℕ, ◌-◌, ◌<◌, List, ◌++◌, length, Some, None}
use Rattle.pb_wire.specs.declared.fault.Cause.{Cause}
use Rattle.pb_wire.specs.Records.{Records, FirstFault}
use Rattle.pb_wire.specs.Reading.{fault_at}
use Rattle.pb_wire.specs.Walk.{entries, wire_fault}

-- all of them are records
pub record AreRecords (end : ℕ) (bytes : List ℕ) : Type 0 where
  pub records : Records bytes (entries bytes)
  pub whole : wire_fault end bytes ≡ None

-- the record behind these records has this fault, at its place
pub record AreRefused (end : ℕ) (bytes : List ℕ) : Type 0 where
  pub front : List ℕ
  pub rest : List ℕ
  pub cause : Cause
  pub parts : bytes ≡ front ++ rest
  pub records : Records front (entries bytes)
  pub some : 0 < length rest
  pub first : FirstFault rest cause
  pub refused : wire_fault end bytes ≡ Some (fault_at (end - length rest) cause)
