-- What the out-link of a connection tells.
use Rattle.std.specs.Prelude.{ℕ, Bool, true, List, take, Option, Some, None}
use Rattle.std.specs.Io.KnownBytes.{Appends}
use Rattle.px_edge.specs.Memory.{Store}

-- a flag that was raised, where it is known
abbrev pub raised : Option Bool → Option Bool
raised None = None
raised (Some flag) = Some true

-- the first so many bytes of a piece were written
abbrev pub WritesFront : Option (List ℕ) → Option (List ℕ) → List ℕ → Type 0
WritesFront old new piece = (n : ℕ) × Appends old new (take n piece)

-- An out-link in memory: its bytes, and whether it was shut or aborted.
pub record LinkStore : Type 0 where
  pub store : Store
  pub shut : Bool
  pub aborted : Bool
