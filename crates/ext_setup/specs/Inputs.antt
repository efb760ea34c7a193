-- What a setup call reads, and what its answer says of that.
use Rattle.std.specs.Prelude.{ℕ, ◌≡◌, ◌≤◌, ◌+◌, List, length, Option}
use Rattle.std.specs.Io.KnownBytes.{Consumes, IsAtEnd}
use Rattle.ext_config.specs.declared.config.ConfigFault.{ConfigFault}
use Rattle.ext_config.specs.Configured.{IsFault}
use Rattle.ext_setup.specs.declared.fault.SetupFault.{SetupFault}
use Rattle.ext_setup.specs.declared.fault.SetupFault.TheVariants as fault

-- the greatest length of an input in bytes
abbrev pub input_limit : ℕ
input_limit = 1048576

-- these bytes were read, and they were all
pub record ReadsWhole (old new : Option (List ℕ)) (bytes : List ℕ) : Type 0 where
  pub read : Consumes old new bytes
  pub none_left : IsAtEnd new
  pub short : length bytes ≤ input_limit

-- one byte more than an input may have
pub record ReadsLong (old new : Option (List ℕ)) : Type 0 where
  pub bytes : List ℕ
  pub read : Consumes old new bytes
  pub long : length bytes ≡ input_limit + 1

abbrev pub ReadsSome : Option (List ℕ) → Option (List ℕ) → Type 0
ReadsSome old new = (bytes : List ℕ) × Consumes old new bytes

-- the whole input was read, and this holds of it
abbrev pub SetsUp : Option (List ℕ) → Option (List ℕ) → (List ℕ → Type 0) → Type 0
SetsUp old new P = (bytes : List ℕ) × ReadsWhole old new bytes × P bytes

-- What an answer says of the bytes that were read, where these faults are those of the bytes of a whole input.
abbrev pub RefusesInput : (List ℕ → Option ConfigFault) → SetupFault → Option (List ℕ) → Option (List ℕ) → Type 0
RefusesInput fault_of (fault.Config f) old new = SetsUp old new (λ bytes. IsFault (fault_of bytes) f)
RefusesInput fault_of fault.Long old new = ReadsLong old new
RefusesInput fault_of fault.Read old new = ReadsSome old new
RefusesInput fault_of fault.Memory old new = ReadsSome old new

-- the exit status
abbrev pub setup_code : SetupFault → ℕ
setup_code (fault.Config f) = 4
setup_code fault.Long = 4
setup_code fault.Read = 5
setup_code fault.Memory = 7
